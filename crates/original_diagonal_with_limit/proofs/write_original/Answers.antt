use Prim.Native.Nat.{ℕ, ◌<◌}
use native.Mathlib.Omega.{arith}
use mathlib.Core.Path.{◌≡◌, ap, ◌∙◌}
use mathlib.Core.List.{List}
use lib.ListN.{length, get_or, set}
use lib.Ieee.{Float, nan}
use borrow.Author.Rules.{rules}
use Rattle.lists.specs.Overwrite.{filled, filled_none, filled_more}
use Rattle.factor_order.specs.Permutation.{index}
use Rattle.original_diagonal_with_limit.proofs.write_original.Invariants.{entry}
use Rattle.original_diagonal_with_limit.proofs.write_original.Goals as goal

-- the place that is read
place_is-After-at-place : (c : goal.After-at-place) → c.at-place.result ≡ index c.args.result_starts.now (index c.args.orig_to_perm.now c.loop-i.i)
place_is-After-at-place c =
    c.at-place.ensures ∙ ap (λ (k : ℕ). index c.args.result_starts.now k) c.at-p.ensures

-- the place that is read
place_is-After-shared_slice_known-in-loop-i-1 : (c : goal.After-shared_slice_known-in-loop-i-1) → c.at-place.result ≡ index c.args.result_starts.now (index c.args.orig_to_perm.now c.loop-i.i)
place_is-After-shared_slice_known-in-loop-i-1 c =
    c.at-place.ensures ∙ ap (λ (k : ℕ). index c.args.result_starts.now k) c.at-p.ensures

inside-After-at-place : (c : goal.After-at-place) → c.at-place.result < length c.args.result_values.now
inside-After-at-place c =
    omega (arith, place_is-After-at-place c, c.requires.places c.loop-i.i c.loop-i-test.true)

inside-After-shared_slice_known-in-loop-i-1 : (c : goal.After-shared_slice_known-in-loop-i-1) → c.at-place.result < length c.args.result_values.now
inside-After-shared_slice_known-in-loop-i-1 c =
    omega (arith, place_is-After-shared_slice_known-in-loop-i-1 c, c.requires.places c.loop-i.i c.loop-i-test.true)

pub loop-i-init : goal.loop-i-init
loop-i-init c = filled_none _ _

pub offset_bounds-result_values-place : goal.offset_bounds-result_values-place
offset_bounds-result_values-place c = let h = inside-After-at-place c in
    search rules

pub bounds-result_values-place : goal.bounds-result_values-place
bounds-result_values-place c = inside-After-shared_slice_known-in-loop-i-1 c

pub bounds-output-i : goal.bounds-output-i
bounds-output-i c = omega (arith, c.loop-i-test.true, c.requires.room, c.loop-i.auto.output)

pub loop-i-preserved : goal.loop-i-preserved
loop-i-preserved c = let l = c.loop-i in
    let a = c.args in
    let f = entry a.orig_to_perm.now a.result_starts.now a.result_values.now in
    let room : l.i < length a.output.now = omega (arith, c.loop-i-test.true, c.requires.room) in
    ap (λ (k : ℕ). set l.output l.i (get_or a.result_values.now k nan)) (place_is-After-shared_slice_known-in-loop-i-1 c)
    ∙ ap (λ (x : List Float). set x l.i (f l.i)) l.invariant
    ∙ filled_more f a.output.now l.i room

pub returns : goal.returns
unfolding filled
returns c = let l = c.loop-i in
    let a = c.args in
    let e : l.i ≡ a.n = omega (arith, c.loop-i-test.false, l.auto.i-end) in
    l.invariant ∙ ap (λ (k : ℕ). filled (entry a.orig_to_perm.now a.result_starts.now a.result_values.now) k a.output.now) e
