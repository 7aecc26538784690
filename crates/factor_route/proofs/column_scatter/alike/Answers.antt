use Rattle.factor_route.proofs.WalkLaws.{at_column, at_second, at_last, at_alike}
use Rattle.factor_route.specs.Walk.{start_of}
use mathlib.Core.Bool.{false≢true}
use borrow.Author.Tests.{eqb-true}
use native.Mathlib.Omega.{arith}
use Prim.Native.Nat.{ℕ, ◌<◌, ◌-◌, ◌+◌}
use mathlib.Core.Path.{◌≡◌, ap, sym, ◌∙◌}
use lib.ListN.{length, get_or}
use Rattle.factor_route.proofs.column_scatter.alike.Goals as goal

second-inside-After-at-k : (c : goal.After-at-k) → c.args.a + 1 < c.args.e
second-inside-After-at-k c = at_second c.requires (omega arith)

second-inside-After-at-f : (c : goal.After-at-f) → c.args.a + 1 < c.args.e
second-inside-After-at-f c = at_second c.requires (omega arith)

second-inside-After-at-2 : (c : goal.After-at-2) → c.args.a + 1 < c.args.e
second-inside-After-at-2 c = at_second c.requires (omega arith)

-- the second row is the next descendant's
second-After-at-f : (c : goal.After-at-f)
    → get_or c.args.rows.now (c.args.a + 1) 0 ≡ get_or c.args.rows.now (c.args.b + (c.args.c + 1)) 0
second-After-at-f c = omega (arith, c.at.ensures, c.at-k.ensures)

-- the second row is the next descendant's
second-After-at-3 : (c : goal.After-at-3)
    → get_or c.args.rows.now (c.args.a + 1) 0 ≡ get_or c.args.rows.now (c.args.b + (c.args.c + 1)) 0
second-After-at-3 c = omega (arith, c.at.ensures, c.at-k.ensures)

-- where the next column starts
start_is-After-at-f : (c : goal.After-at-f)
    → c.at-f.result ≡ start_of c.args.starts.now c.args.rows.now c.args.b (c.args.c + 1)
start_is-After-at-f c = c.at-f.ensures ∙ ap (λ (k : ℕ). get_or c.args.starts.now k 0) c.at-k.ensures

-- where the next column starts
start_is-After-at-3 : (c : goal.After-at-3)
    → c.at-f.result ≡ start_of c.args.starts.now c.args.rows.now c.args.b (c.args.c + 1)
start_is-After-at-3 c = c.at-f.ensures ∙ ap (λ (k : ℕ). get_or c.args.starts.now k 0) c.at-k.ensures

last_inside : (c : goal.After-at-f)
    → c.at-f.result + (c.args.e - c.args.a - 2) < length c.args.rows.now
last_inside c = at_last c.requires (omega arith) (second-After-at-f c) c.at-f.result (start_is-After-at-f c)

pub returns-then-m-c : goal.returns-then-m-c
returns-then-m-c c = λ t. absurd (false≢true t)

pub overflow_add-b : goal.overflow_add-b
overflow_add-b c = let h = (at_column c.requires).inside in
    omega arith

pub at-k-requires : goal.at-k-requires
at-k-requires c = let h = (at_column c.requires).inside in
    omega arith

pub overflow_add-a : goal.overflow_add-a
overflow_add-a c = let h = second-inside-After-at-k c in
    let k = (at_column c.requires).stored in
    omega arith

pub at-requires : goal.at-requires
at-requires c = let h = second-inside-After-at-k c in
    let k = (at_column c.requires).stored in
    omega arith

pub returns-then-at-k : goal.returns-then-at-k
returns-then-at-k c = λ t. absurd (false≢true t)

pub at-f-requires : goal.at-f-requires
at-f-requires c = let h = c.requires.walk.started (c.args.c + 1) (omega arith) in
    omega (arith, c.at-k.ensures)

pub overflow_sub-e : goal.overflow_sub-e
overflow_sub-e c = let h = second-inside-After-at-f c in
    omega arith

pub overflow_sub-e-2 : goal.overflow_sub-e-2
overflow_sub-e-2 c = let h = second-inside-After-at-f c in
    omega arith

pub overflow_add-f : goal.overflow_add-f
overflow_add-f c = let h = last_inside c in
    omega arith

pub at-requires-2 : goal.at-requires-2
at-requires-2 c = last_inside c

pub overflow_sub-e-3 : goal.overflow_sub-e-3
overflow_sub-e-3 c = let h = second-inside-After-at-2 c in
    omega arith

pub at-requires-3 : goal.at-requires-3
at-requires-3 c = let h = second-inside-After-at-2 c in
    let k = (at_column c.requires).stored in
    omega arith

pub returns : goal.returns
returns c = λ t.
    at_alike c.requires (omega arith) (second-After-at-3 c) c.at-f.result (start_is-After-at-3 c)
    (sym c.at-2.ensures ∙ eqb-true c.at-2.result c.at-3.result t ∙ c.at-3.ensures)
