use lib.Ieee.{binary64, in_float}
use lib.IntN.{pos}
use lib.Dec.{T, le→leb}
use Rattle.floor.specs.PositiveMean.{positive_count_yes, positive_count-no, positive_mean_none, positive_mean_some}
use Rattle.lists.specs.Select.{tally_none, tally_most}
use Rattle.floor.specs.PositiveMean.{positive, positive_count, positive_sum, positive_sum_none, positive_sum_yes, positive_sum-no}
use native.Mathlib.Omega.{arith}
use Prim.Native.Nat.{ℕ, ◌≤◌}
use mathlib.Core.Path.{◌≡◌, ap, sym, ◌∙◌}
use lib.ListN.{length}
use Rattle.floor.proofs.positive_mean.positive_mean.Goals.{else-x, then-x}
use Rattle.floor.proofs.positive_mean.positive_mean.Goals as goal

-- a count as a float
exact : (k : ℕ) → k ≤ 9007199254740992 → T (in_float binary64 (pos k))
unfolding in_float
exact k h = le→leb k 9007199254740992 h

pub loop-x-init : goal.loop-x-init
loop-x-init c = (sym (tally_none _ _), sym (positive_sum_none _))

pub overflow_add-count : goal.overflow_add-count
overflow_add-count c = omega (arith, tally_most (positive c.args.values.now) 0 c.loop-x.x-index)

pub loop-x-preserved : goal.loop-x-preserved
loop-x-preserved c =
    let l = c.loop-x in
    let v = c.args.values.now in (
      elim c.if-x.branch [ then-x w ↦ cc (w.count-is, l.invariant.0, positive_count_yes v l.x-index w.if-x.true) | else-x w ↦ cc (w.count-is, l.invariant.0, positive_count-no v l.x-index w.if-x.false) ],
      elim c.if-x.branch [ then-x w ↦ cc (w.sum-is, l.invariant.1, positive_sum_yes v l.x-index w.if-x.true) | else-x w ↦ cc (w.sum-is, l.invariant.1, positive_sum-no v l.x-index w.if-x.false) ],
    )

pub returns-then-count-eq0 : goal.returns-then-count-eq0
returns-then-count-eq0 c =
    let l = c.loop-x in
    let v = c.args.values.now in
    let e : l.x-index ≡ length v = omega arith in
    positive_mean_none v (ap (positive_count v) (sym e) ∙ sym l.invariant.0 ∙ c.if-count-eq0.true)

pub int_to_float-result : goal.int_to_float-result
int_to_float-result c =
    let l = c.loop-x in
    exact l.count (omega (arith, tally_most (positive c.args.values.now) 0 l.x-index, c.requires))

pub returns : goal.returns
returns c =
    let l = c.loop-x in
    let v = c.args.values.now in
    let e : l.x-index ≡ length v = omega arith in
    positive_mean_some v (l.invariant.0 ∙ ap (positive_count v) e) (l.invariant.1 ∙ ap (positive_sum v) e) c.if-count-eq0.false
