use borrow.Author.Rules.{rules}
use native.Mathlib.Omega.{arith}
use mathlib.Core.Path.{ap, sym, ◌∙◌}
use lib.ListN.{length}
use Rattle.refusal.specs.Steps.{Passed}
use Rattle.refusal.specs.Refusal.{reply_of}
use Rattle.result.proofs.Laws.{result_steps-sound}
use Rattle.weight_ranges.specs.Ranges.{weight_steps}
use Rattle.weight_ranges.proofs.Laws.{range_result, range_row, range_weights, range_pairs, equal_lengths}
use Rattle.weight_ranges.proofs.checks.check_call.Goals as goal

weights_passed : (c : goal.After-check_pairs) → let a = c.args in Passed (weight_steps (length a.columns.now) a.lows.now a.highs.now)
weights_passed c = sym c.check_weights.ensures ∙ ap reply_of c.in_default-check_weights.is

pub returns-in-Err : goal.returns-in-Err
returns-in-Err c = range_result _ _ _ _ _ _ (sym c.check_result.ensures ∙ ap reply_of c.in-Err.is)

pub overflow_sub-starts : goal.overflow_sub-starts
overflow_sub-starts c =
    let result-passed = sym c.check_result.ensures ∙ ap reply_of c.in_default.is in
    let w = (result_steps-sound _ _ _ result-passed).some in search rules

pub returns-in-Err-check_row : goal.returns-in-Err-check_row
returns-in-Err-check_row c =
    let result-passed = sym c.check_result.ensures ∙ ap reply_of c.in_default.is in
    range_row _ _ _ _ _ _ result-passed (sym c.check_row.ensures ∙ ap reply_of c.in-Err-check_row.is)

pub check_weights-requires : goal.check_weights-requires
check_weights-requires c =
    let row_passed = sym c.check_row.ensures ∙ ap reply_of c.in_default-check_row.is in
    let a = c.args in
    let e = equal_lengths a.starts.now a.rows.now a.values.now a.columns.now a.lows.now a.highs.now row_passed in
    (omega (arith, e.0), omega (arith, e.1))

pub returns-in-Err-check_weights : goal.returns-in-Err-check_weights
returns-in-Err-check_weights c =
    let result-passed = sym c.check_result.ensures ∙ ap reply_of c.in_default.is in
    let row_passed = sym c.check_row.ensures ∙ ap reply_of c.in_default-check_row.is in
    range_weights _ _ _ _ _ _ result-passed row_passed (sym c.check_weights.ensures ∙ ap reply_of c.in-Err-check_weights.is)

pub check_pairs-requires : goal.check_pairs-requires
check_pairs-requires c =
    let result-passed = sym c.check_result.ensures ∙ ap reply_of c.in_default.is in
    result_steps-sound _ _ _ result-passed

pub returns : goal.returns
returns c =
    let result-passed = sym c.check_result.ensures ∙ ap reply_of c.in_default.is in
    let row_passed = sym c.check_row.ensures ∙ ap reply_of c.in_default-check_row.is in
    c.check_pairs.ensures ∙ range_pairs _ _ _ _ _ _ result-passed row_passed (weights_passed c)
