use Prim.Native.Nat.{ℕ, ◌+◌, ◌-◌, ◌≤◌, ◌<◌}
use native.Mathlib.Omega.{arith}
use mathlib.Core.Path.{◌≡◌, ap, ◌∙◌}
use lib.ListN.{length, get_or}
use borrow.Author.Tests.{eqb-true}
use Rattle.closure_route.specs.Run.{row_positions}
use Rattle.closure_route.proofs.RunLaws.{run-apart, run_is}
use Rattle.closure_route.proofs.runs.is_run.Goals as goal

-- the words of the first row and of the last are there
first-inside : (c : goal.After-at) → c.args.base + c.at.result < length c.args.scratch.now
first-inside c = omega (arith, c.at.ensures, c.requires.inside c.args.from (omega arith) c.requires.some)

last_inside : (c : goal.After-at-2) → c.args.base + c.at-2.result < length c.args.scratch.now
last_inside c =
    omega (arith, c.at-2.ensures, c.requires.inside (c.args.last - 1) (omega (arith, c.requires.some)) (omega (arith, c.requires.some)))

-- and hold their positions
abbrev positions : goal.After-at-b → ℕ → ℕ
positions c = let a = c.args in row_positions a.base a.rows.now a.scratch.now

first_is : (c : goal.After-at-b) → c.at-a.result ≡ positions c c.args.from
first_is c =
    let a = c.args in
    c.at-a.ensures ∙ ap (λ (k : ℕ). get_or a.scratch.now (a.base + k) 0) c.at.ensures

last_is : (c : goal.After-at-b) → c.at-b.result ≡ positions c (c.args.last - 1)
last_is c =
    let a = c.args in
    c.at-b.ensures ∙ ap (λ (k : ℕ). get_or a.scratch.now (a.base + k) 0) c.at-2.ensures

-- the last is not before the first
in_order : (c : goal.After-at-b) → c.at-a.result ≤ c.at-b.result
in_order c =
    let h = c.requires.some in
    omega (
      arith,
      first_is c,
      last_is c,
      run-apart (positions c) c.args.from c.args.last c.requires.rises c.args.from (c.args.last - 1) (omega arith) (omega arith) (omega arith),
    )

pub overflow_add-base : goal.overflow_add-base
overflow_add-base c = omega (arith, first-inside c)

pub at-a-requires : goal.at-a-requires
at-a-requires c = first-inside c

pub overflow_add-base-2 : goal.overflow_add-base-2
overflow_add-base-2 c = omega (arith, last_inside c)

pub at-b-requires : goal.at-b-requires
at-b-requires c = last_inside c

pub overflow_sub-result : goal.overflow_sub-result
overflow_sub-result c = in_order c

pub returns : goal.returns
returns c t = let e = eqb-true (c.at-b.result - c.at-a.result) (c.args.last - 1 - c.args.from) t in
    run_is (positions c) c.args.from c.args.last c.requires.rises (omega (arith, first_is c, last_is c, in_order c))
