use Rattle.factor_route.proofs.WalkLaws.{at_column, at_second, at_after, at_pair, column_advanced, pair_advanced}
use Rattle.factor_route.specs.Walk.{WalkAt, SameRows, start_of}
use native.Mathlib.Omega.{arith}
use Prim.Native.Nat.{ℕ, ◌<◌, ◌-◌, ◌+◌}
use mathlib.Core.Path.{◌≡◌, ap, ◌∙◌}
use lib.ListN.{length, get_or}
use Rattle.factor_route.proofs.column_scatter.scatter_from.Goals as goal

-- the column is one of the result's
started-After-at-k : (c : goal.After-at-k) → c.at-k.result + 1 < length c.args.starts.now
started-After-at-k c =
    let h = c.requires.0.started c.args.c c.requires.3 in
    omega (arith, c.at-k.ensures)

-- the column is one of the result's
started-After-at-a : (c : goal.After-at-a) → c.at-k.result + 1 < length c.args.starts.now
started-After-at-a c =
    let h = c.requires.0.started c.args.c c.requires.3 in
    omega (arith, c.at-k.ensures)

walk_at-After-at-e : (c : goal.After-at-e)
    → WalkAt c.args.starts.now c.args.rows.now c.at-a.result c.at-e.result c.args.b c.args.m c.args.c
walk_at-After-at-e c =
    record {
      walk = c.requires.0;
      here = c.requires.3;
      from = c.at-a.ensures ∙ ap (λ (k : ℕ). get_or c.args.starts.now k 0) c.at-k.ensures;
      upto = c.at-e.ensures ∙ ap (λ (k : ℕ). get_or c.args.starts.now (k + 1) 0) c.at-k.ensures;
    }

walk_at-After-at-f : (c : goal.After-at-f)
    → WalkAt c.args.starts.now c.args.rows.now c.at-a.result c.at-e.result c.args.b c.args.m c.args.c
walk_at-After-at-f c =
    record {
      walk = c.requires.0;
      here = c.requires.3;
      from = c.at-a.ensures ∙ ap (λ (k : ℕ). get_or c.args.starts.now k 0) c.at-k.ensures;
      upto = c.at-e.ensures ∙ ap (λ (k : ℕ). get_or c.args.starts.now (k + 1) 0) c.at-k.ensures;
    }

walk_at-After-scatter_pair-arg-1 : (c : goal.After-scatter_pair-arg-1)
    → WalkAt c.args.starts.now c.args.rows.now c.at-a.result c.at-e.result c.args.b c.args.m c.args.c
walk_at-After-scatter_pair-arg-1 c =
    record {
      walk = c.requires.0;
      here = c.requires.3;
      from = c.at-a.ensures ∙ ap (λ (k : ℕ). get_or c.args.starts.now k 0) c.at-k.ensures;
      upto = c.at-e.ensures ∙ ap (λ (k : ℕ). get_or c.args.starts.now (k + 1) 0) c.at-k.ensures;
    }

walk_at-After-scatter_pair : (c : goal.After-scatter_pair)
    → WalkAt c.args.starts.now c.args.rows.now c.at-a.result c.at-e.result c.args.b c.args.m c.args.c
walk_at-After-scatter_pair c =
    record {
      walk = c.requires.0;
      here = c.requires.3;
      from = c.at-a.ensures ∙ ap (λ (k : ℕ). get_or c.args.starts.now k 0) c.at-k.ensures;
      upto = c.at-e.ensures ∙ ap (λ (k : ℕ). get_or c.args.starts.now (k + 1) 0) c.at-k.ensures;
    }

walk_at-After-scatter_column-arg-1 : (c : goal.After-scatter_column-arg-1)
    → WalkAt c.args.starts.now c.args.rows.now c.at-a.result c.at-e.result c.args.b c.args.m c.args.c
walk_at-After-scatter_column-arg-1 c =
    record {
      walk = c.requires.0;
      here = c.requires.3;
      from = c.at-a.ensures ∙ ap (λ (k : ℕ). get_or c.args.starts.now k 0) c.at-k.ensures;
      upto = c.at-e.ensures ∙ ap (λ (k : ℕ). get_or c.args.starts.now (k + 1) 0) c.at-k.ensures;
    }

walk_at-After-scatter_column : (c : goal.After-scatter_column)
    → WalkAt c.args.starts.now c.args.rows.now c.at-a.result c.at-e.result c.args.b c.args.m c.args.c
walk_at-After-scatter_column c =
    record {
      walk = c.requires.0;
      here = c.requires.3;
      from = c.at-a.ensures ∙ ap (λ (k : ℕ). get_or c.args.starts.now k 0) c.at-k.ensures;
      upto = c.at-e.ensures ∙ ap (λ (k : ℕ). get_or c.args.starts.now (k + 1) 0) c.at-k.ensures;
    }

same-Then-alike : (c : goal.Then-alike)
    → SameRows c.args.starts.now c.args.rows.now c.at-a.result c.at-e.result c.args.b c.args.m
    c.args.c
same-Then-alike c = c.alike.ensures c.if-alike.true

same-After-at : (c : goal.After-at)
    → SameRows c.args.starts.now c.args.rows.now c.at-a.result c.at-e.result c.args.b c.args.m
    c.args.c
same-After-at c = c.alike.ensures c.if-alike.true

same-After-at-f : (c : goal.After-at-f)
    → SameRows c.args.starts.now c.args.rows.now c.at-a.result c.at-e.result c.args.b c.args.m
    c.args.c
same-After-at-f c = c.alike.ensures c.if-alike.true

same-After-scatter_pair-arg-1 : (c : goal.After-scatter_pair-arg-1)
    → SameRows c.args.starts.now c.args.rows.now c.at-a.result c.at-e.result c.args.b c.args.m
    c.args.c
same-After-scatter_pair-arg-1 c = c.alike.ensures c.if-alike.true

same-After-scatter_pair : (c : goal.After-scatter_pair)
    → SameRows c.args.starts.now c.args.rows.now c.at-a.result c.at-e.result c.args.b c.args.m
    c.args.c
same-After-scatter_pair c = c.alike.ensures c.if-alike.true

-- where the next column starts
start_is-After-at-f : (c : goal.After-at-f) → c.at-f.result ≡ start_of c.args.starts.now c.args.rows.now c.args.b (c.args.c + 1)
start_is-After-at-f c = c.at-f.ensures ∙ ap (λ (k : ℕ). get_or c.args.starts.now k 0) c.at.ensures

-- where the next column starts
start_is-After-scatter_pair-arg-1 : (c : goal.After-scatter_pair-arg-1) → c.at-f.result ≡ start_of c.args.starts.now c.args.rows.now c.args.b (c.args.c + 1)
start_is-After-scatter_pair-arg-1 c = c.at-f.ensures ∙ ap (λ (k : ℕ). get_or c.args.starts.now k 0) c.at.ensures

-- where the next column starts
start_is-After-scatter_pair : (c : goal.After-scatter_pair) → c.at-f.result ≡ start_of c.args.starts.now c.args.rows.now c.args.b (c.args.c + 1)
start_is-After-scatter_pair c = c.at-f.ensures ∙ ap (λ (k : ℕ). get_or c.args.starts.now k 0) c.at.ensures

pub overflow_add-b : goal.overflow_add-b
overflow_add-b c = let h = (c.requires.0.column c.args.c c.requires.3).inside in
    omega arith

pub at-k-requires : goal.at-k-requires
at-k-requires c = let h = (c.requires.0.column c.args.c c.requires.3).inside in
    omega arith

pub at-a-requires : goal.at-a-requires
at-a-requires c = let h = started-After-at-k c in
    omega arith

pub overflow_add-k : goal.overflow_add-k
overflow_add-k c = let h = started-After-at-a c in
    omega arith

pub at-e-requires : goal.at-e-requires
at-e-requires c = started-After-at-a c

pub alike-requires : goal.alike-requires
alike-requires c = walk_at-After-at-e c

pub overflow_add-b-then-alike : goal.overflow_add-b-then-alike
overflow_add-b-then-alike c = let h = (c.requires.0.column c.args.c c.requires.3).inside in
    let k = (same-Then-alike c).next in
    omega arith

pub at-requires : goal.at-requires
at-requires c = let h = (c.requires.0.column c.args.c c.requires.3).inside in
    let k = (same-Then-alike c).next in
    omega arith

pub at-f-requires : goal.at-f-requires
at-f-requires c = let h = c.requires.0.started (c.args.c + 1) (same-After-at c).next in
    omega (arith, c.at.ensures)

pub overflow_add-a : goal.overflow_add-a
overflow_add-a c = let h = at_second (walk_at-After-at-f c) (same-After-at-f c).next in
    omega arith

pub overflow_sub-f : goal.overflow_sub-f
overflow_sub-f c = let h = at_second (walk_at-After-at-f c) (same-After-at-f c).next in
    let k = at_after (walk_at-After-at-f c) (same-After-at-f c).next in
    omega (arith, start_is-After-at-f c)

pub scatter_pair-requires : goal.scatter_pair-requires
scatter_pair-requires c = let K = same-After-scatter_pair-arg-1 c in
    let h = c.requires.1 (c.args.c + 1) K.next in
    (at_pair (walk_at-After-scatter_pair-arg-1 c) K, c.requires.2, omega (arith, start_is-After-scatter_pair-arg-1 c, K.fits))

pub overflow_add-result : goal.overflow_add-result
overflow_add-result c = let h = (same-After-scatter_pair c).next in
    omega arith

pub returns-then-alike : goal.returns-then-alike
returns-then-alike c = let z = c.args in
    pair_advanced (walk_at-After-scatter_pair c) z.values.now z.weights.now z.sums.now _ _
    (ap (λ (k : ℕ). k - (c.at-a.result + 1)) (start_is-After-scatter_pair c)) (same-After-scatter_pair c) c.scatter_pair.ensures

pub scatter_column-requires : goal.scatter_column-requires
scatter_column-requires c = let W = walk_at-After-scatter_column-arg-1 c in
    let h = c.requires.1 c.args.c c.requires.3 in
    (at_column W, c.requires.2, omega (arith, W.upto))

pub returns : goal.returns
returns c = let z = c.args in
    column_advanced (walk_at-After-scatter_column c) z.values.now z.weights.now z.sums.now _ c.scatter_column.ensures
