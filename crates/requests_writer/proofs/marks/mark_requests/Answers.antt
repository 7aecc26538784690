use native.Mathlib.Omega.{arith}
use Prim.Native.Nat.{ℕ, ◌<◌, ◌+◌}
use mathlib.Core.Path.{ap, sym, ◌∙◌}
use lib.ListN.{length}
use Prim.Native.Nat.{◌/◌}
use mathlib.Core.Path.{ap₂, subst}
use mathlib.Core.List.{List}
use Rattle.bits.specs.Bits.{with_bit}
use Rattle.pairs.specs.ColumnOrder.{column_place}
use Rattle.requests_writer.proofs.MarkLaws.{MarkedTo, clean_long, clean_input, marked_none, mark_inside, marked_more, marked_end}
use Rattle.requests_writer.proofs.marks.mark_requests.Goals as goal

pub loop-k-init : goal.loop-k-init
loop-k-init c = marked_none _ _ _ _ c.requires _ c.clear.ensures

pub set_bit-requires : goal.set_bit-requires
set_bit-requires c =
    let place = c.column_place.ensures ∙ ap₂ (column_place c.args.n) c.at.ensures c.at-in-loop-k.ensures in
    let input = clean_input _ _ _ _ c.requires _ c.clear.ensures in
    subst (λ (p : ℕ). p / 32 < length c.loop-k.marks) (sym place) (mark_inside _ _ _ _ input _ _ c.loop-k.invariant c.loop-k-test.true)

pub loop-k-preserved : goal.loop-k-preserved
loop-k-preserved c =
    let clean = c.clear.new.words in
    let place = c.column_place.ensures ∙ ap₂ (column_place c.args.n) c.at.ensures c.at-in-loop-k.ensures in
    let input = clean_input _ _ _ _ c.requires _ c.clear.ensures in
    let a = c.args in
    subst (λ (s : List ℕ). MarkedTo a.n a.rows.now a.columns.now clean s (c.loop-k.k + 1)) (sym (c.set_bit.ensures ∙ ap (with_bit c.loop-k.marks) place))
    (marked_more _ _ _ _ input _ _ c.loop-k.invariant c.loop-k-test.true)

pub returns : goal.returns
returns c =
    let input = clean_input _ _ _ _ c.requires _ c.clear.ensures in
    let M = marked_end _ _ _ _ input _ _ c.loop-k.invariant (omega arith) in
    record { marks_are = M.marks_are; long = M.long ∙ clean_long _ _ _ _ c.requires _ c.clear.ensures }
