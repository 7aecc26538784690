use Rattle.fill.proofs.KeptLaws.{unmarked_column, choice_starts, choice_column, choice_missing, choice_sizes, choice_same}
use Rattle.lists.specs.Test.{any, any_none, any_more}
use mathlib.Core.Path.{subst, ◌≡◌, sym, ◌∙◌}
use mathlib.Core.Bool.{false}
use native.Mathlib.Omega.{arith}
use Prim.Native.Nat.{ℕ}
use Rattle.fill.proofs.kept_pattern.closure_is_cholesky_factor_pattern.Goals as goal
use Rattle.fill.proofs.kept_pattern.closure_is_cholesky_factor_pattern.Goals.{After-unmarked_pattern}

-- what the call says of the column
column : (c : After-unmarked_pattern) →
    let z = c.args in
    c.unmarked_pattern.result ≡ unmarked_column z.n z.scratch.now z.starts.now z.rows.now z.values.now c.loop-c.c
column c = rw (← c.at.ensures, ← c.at-in-loop-c.ensures) c.unmarked_pattern.ensures

pub returns-then-closure_pairs-factor_pairs : goal.returns-then-closure_pairs-factor_pairs
returns-then-closure_pairs-factor_pairs c = sym (choice_sizes c.requires c.if-closure_pairs-factor_pairs.true)

pub loop-c-init : goal.loop-c-init
loop-c-init c = any_none _

pub at-requires : goal.at-requires
at-requires c = let h = choice_starts c.requires c.loop-c.c (omega arith) in
    omega arith

pub overflow_add-c : goal.overflow_add-c
overflow_add-c c = let h = choice_starts c.requires c.loop-c.c (omega arith) in
    omega arith

pub at-requires-in-loop-c : goal.at-requires-in-loop-c
at-requires-in-loop-c c = choice_starts c.requires c.loop-c.c (omega arith)

pub unmarked_pattern-requires : goal.unmarked_pattern-requires
unmarked_pattern-requires c = (choice_column c.requires c.loop-c.c c.at.result c.at-in-loop-c.result (omega arith) c.at.ensures c.at-in-loop-c.ensures, omega arith)

pub returns-then-unmarked_pattern : goal.returns-then-unmarked_pattern
returns-then-unmarked_pattern c = let i = c.loop-c in
    sym (choice_missing c.requires i.c (omega arith) (sym (column (goal.at.returns-then-unmarked_pattern c).After-unmarked_pattern) ∙ c.if-unmarked_pattern.true))

pub loop-c-preserved : goal.loop-c-preserved
loop-c-preserved c = let z = c.args in
    let i = c.loop-c in any_more (unmarked_column z.n z.scratch.now z.starts.now z.rows.now z.values.now) i.c i.invariant
    (sym (column (goal.at.loop-c-preserved c).After-unmarked_pattern) ∙ c.if-unmarked_pattern.false)

pub returns : goal.returns
returns c = let i = c.loop-c in
    let q : i.c ≡ c.args.n = omega arith in
    sym (choice_same c.requires c.if-closure_pairs-factor_pairs.false
    (subst (λ (k : ℕ). any (unmarked_column c.args.n c.args.scratch.now c.args.starts.now c.args.rows.now c.args.values.now) k
    ≡ false) q i.invariant))
