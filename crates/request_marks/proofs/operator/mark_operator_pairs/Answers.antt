use native.Mathlib.Omega.{arith}
use Prim.Native.Nat.{ℕ, ◌+◌}
use mathlib.Core.Path.{◌≡◌, ap, sym, subst₂, ◌∙◌}
use Rattle.lists.specs.Test.{any_none}
use Rattle.columns.specs.Columns as columns
use Rattle.columns.specs.Operator.{operator_rows}
use Rattle.marked_pairs.specs.MarkedPairs.{AlsoMarked, also_none, also_more, pairs_also, pairs_cong}
use Rattle.pattern_lists.specs.PatternMarks.{row_set, rows_set}
use Rattle.pattern_lists.proofs.PatternMarks.{rows_set-operator_pair}
use Rattle.request_marks.proofs.OperatorRequests.{operator_requested_pair}
use Rattle.request_marks.specs.OperatorMarks.{RowInput}
use Rattle.request_marks.proofs.OperatorLaws.{row_input}
use Rattle.request_marks.proofs.operator.mark_operator_pairs.Goals as goal

pub loop-i-init : goal.loop-i-init
loop-i-init c = also_none _ (λ r k. any_none _) c.clear_pairs.ensures.marked

pub mark_row-count-requires : goal.mark_row-count-requires
mark_row-count-requires c = let l = c.loop-i in
    subst₂ (λ (x y : ℕ). RowInput c.args.n c.args.columns.now x y l.scratch l.count) (sym c.at.ensures) (sym c.at-in-loop-i.ensures)
    (row_input c.requires.small c.requires.rows l.invariant.marked l.i (omega (arith, c.loop-i-test.true, c.operator_rows-last.ensures)))

pub loop-i-preserved : goal.loop-i-preserved
loop-i-preserved c = let l = c.loop-i in
    let a = c.args in
    let step =
    subst₂ (λ (x y : ℕ). AlsoMarked a.n (row_set a.columns.now x y) l.scratch c.mark_row-count.new.scratch c.mark_row-count.result)
    c.at.ensures c.at-in-loop-i.ensures c.mark_row-count.ensures in
    also_more (λ i. row_set a.columns.now (columns.start a.row_starts.now i) (columns.start a.row_starts.now (i + 1))) l.i l.invariant step

pub returns : goal.returns
returns c = let a = c.args in
    let rs = a.row_starts.now in
    let cs = a.columns.now in
    let e : c.loop-i.i ≡ operator_rows rs = omega (arith, c.operator_rows-last.ensures) in
    pairs_cong
    (λ r k h l. ap (λ (j : ℕ). rows_set rs cs j r k) e ∙ rows_set-operator_pair rs cs r k h ∙ sym (operator_requested_pair rs cs r k h))
    (pairs_also c.clear_pairs.ensures c.loop-i.invariant)
