use mathlib.Core.Path.{ap, ap₂, ◌∙◌}
use lib.IntN.{nat_abs}
use lib.Signed.{lt_z}
use mir.Syntax.{w64}
use mir.ValLaws.{to_z-of_z}
use Rattle.weight_ranges.proofs.Laws.{bad_low, bad_high, bad_order}
use Rattle.weight_ranges.proofs.checks.bad_range.Goals as goal

pub returns-then-size-gt-MAX_WEIGHT : goal.returns-then-size-gt-MAX_WEIGHT
returns-then-size-gt-MAX_WEIGHT c =
    let low_size = c.size.ensures ∙ ap nat_abs (to_z-of_z w64 c.whole_at.result (record { sfits = c.whole_at.type_inv }) ∙ c.whole_at.ensures) in
    bad_low c.args.lows.now c.args.highs.now c.args.a (rw low_size at c.if-size-gt-MAX_WEIGHT.true)

pub returns-then-size-gt-MAX_WEIGHT-2 : goal.returns-then-size-gt-MAX_WEIGHT-2
returns-then-size-gt-MAX_WEIGHT-2 c =
    let high_size = c.size-2.ensures ∙ ap nat_abs (to_z-of_z w64 c.whole_at-2.result (record { sfits = c.whole_at-2.type_inv }) ∙ c.whole_at-2.ensures) in
    bad_high c.args.lows.now c.args.highs.now c.args.a (rw high_size at c.if-size-gt-MAX_WEIGHT-2.true)

pub returns : goal.returns
returns c =
    let low_size = c.size.ensures ∙ ap nat_abs (to_z-of_z w64 c.whole_at.result (record { sfits = c.whole_at.type_inv }) ∙ c.whole_at.ensures) in
    let high_size = c.size-2.ensures ∙ ap nat_abs (to_z-of_z w64 c.whole_at-2.result (record { sfits = c.whole_at-2.type_inv }) ∙ c.whole_at-2.ensures) in
    let x = c.whole_at-3 in
    let y = c.whole_at-4 in
    c.is_above.ensures
    ∙ ap₂ lt_z (to_z-of_z w64 y.result (record { sfits = y.type_inv }) ∙ y.ensures) (to_z-of_z w64 x.result (record { sfits = x.type_inv }) ∙ x.ensures)
    ∙ bad_order c.args.lows.now c.args.highs.now c.args.a (rw low_size at c.if-size-gt-MAX_WEIGHT.false) (rw high_size at c.if-size-gt-MAX_WEIGHT-2.false)
