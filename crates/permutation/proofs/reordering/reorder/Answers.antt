use Rattle.std.proofs.Common.{◌<◌, length, arith, refl, ap, ap₂, ◌∙◌}
use Rattle.std.proofs.lemmas.List.{get_or_read_under}
use Rattle.std.specs.Prelude.{ℕ, ◌≡◌, List, set}
use Rattle.lists.specs.Overwrite.{filled, filled_none, filled_more}
use Rattle.factor_order.specs.Permutation.{index, reordered}
use Rattle.permutation.proofs.reordering.reorder.Invariants.{moved}
use Rattle.permutation.proofs.reordering.reorder.Goals as goal

pub loop-i-init : goal.loop-i-init
loop-i-init g c blank = filled_none _ _

pub bounds-input-p : goal.bounds-input-p
bounds-input-p g c = omega (arith, c.requires.permutation.inside c.loop-i.i c.loop-i-test.true, c.requires.input_len.0)

pub loop-i-preserved : goal.loop-i-preserved
loop-i-preserved g c blank =
    let a = c.args in
    let i = c.loop-i.i in
    let f = moved blank a.orig_to_perm.now a.input.now in
    let room : i < length a.output.now = omega (arith, c.loop-i-test.true, c.requires.input_len.1) in
    let inside : index a.orig_to_perm.now i < length a.input.now = omega (arith, c.requires.permutation.inside i c.loop-i-test.true, c.requires.input_len.0) in
    let read = get_or_read_under _ _ _ _ blank c.index-input-p.is inside refl in
    ap₂ (λ (x : List g.row.T.Denot) (y : g.row.T.Denot). set x i y) (c.loop-i.invariant blank) read ∙ filled_more f a.output.now i room

pub returns : goal.returns
unfolding reordered filled
returns g c blank =
    let a = c.args in
    let e : c.loop-i.i ≡ length a.orig_to_perm.now = omega (arith, c.loop-i-test.false, c.loop-i.auto.i-end) in
    c.loop-i.invariant blank ∙ ap (λ (k : ℕ). filled (moved blank a.orig_to_perm.now a.input.now) k a.output.now) e
