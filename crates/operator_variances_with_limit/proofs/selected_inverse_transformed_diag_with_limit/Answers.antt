use Rattle.std.proofs.Common.{arith, List, length, sym, ap, subst, ◌∙◌}
use lib.Ieee.{Float}
use Rattle.refusal.proofs.Returned.{returned_is}
use Rattle.pairs.proofs.Scratch.{scratch_words_room}
use Rattle.columns.specs.Operator.{OperatorRows}
use Rattle.diagnostics.specs.declared.SelectedInverseDiagnostics.{SelectedInverseDiagnostics}
use Rattle.diagnostics.specs.declared.SelectedInverseStatus.TheVariants.{Complete, ClosureTooLarge}
use Rattle.selection.specs.Selection.{lists, room_of}
use Rattle.selection.proofs.Status.{status_tells}
use Rattle.fill.specs.Fill.{marked_are, marked_input, marked_answer, marked_lists}
use Rattle.operator_values.proofs.Output.{output-refused, output-large, output_within}
use Rattle.lists.specs.Overwrite.{overwrite}
use Rattle.operator_variances_with_limit.specs.Transformed.{transformed_call, transformed_selection, transformed_steps, transformed_values, transformed_accepted}
use Rattle.operator_variances_with_limit.proofs.Reply.{transformed_reading, transformed_written}
use Rattle.operator_variances_with_limit.proofs.selected_inverse_transformed_diag_with_limit.Goals as goal

pub mark_operator_pairs-requested_pairs-requires : goal.mark_operator_pairs-requested_pairs-requires
mark_operator_pairs-requested_pairs-requires c = let a = c.args in
    let x = transformed_call a.n a.starts.now a.rows.now a.values.now a.ncols a.row_starts.now a.columns.now a.weights.now a.limit in
    let l = lists a.result_starts.now a.result_rows.now a.result_values.now a.scratch.now in
    let p = sym c.in_ok-check_transformed.ensures in
    let A = transformed_accepted x (room_of l) (length a.output.now) p in
    record { small = A.accepted.small; rows = subst (OperatorRows _ _ _) A.operator.weighed A.operator; room = scratch_words_room _ A.accepted.scratch_room }

pub fill_lists-diagnosis-requires : goal.fill_lists-diagnosis-requires
fill_lists-diagnosis-requires c = let a = c.args in
    let x = transformed_call a.n a.starts.now a.rows.now a.values.now a.ncols a.row_starts.now a.columns.now a.weights.now a.limit in
    let l = lists a.result_starts.now a.result_rows.now a.result_values.now a.scratch.now in
    let p = sym c.in_ok-check_transformed.ensures in
    let A = transformed_accepted x (room_of l) (length a.output.now) p in
    marked_input l.result_starts l.result_rows l.result_values A.accepted c.mark_operator_pairs-requested_pairs.ensures

pub clear_scratch-requires : goal.clear_scratch-requires
clear_scratch-requires c = let a = c.args in
    let x = transformed_call a.n a.starts.now a.rows.now a.values.now a.ncols a.row_starts.now a.columns.now a.weights.now a.limit in
    let l = lists a.result_starts.now a.result_rows.now a.result_values.now a.scratch.now in
    let p = sym c.in_ok-check_transformed.ensures in
    let A = transformed_accepted x (room_of l) (length a.output.now) p in
    (A.accepted.small, omega (arith, c.fill_lists-diagnosis.ensures.long, c.mark_operator_pairs-requested_pairs.ensures.long, A.accepted.scratch_room))

pub returns-in-ClosureTooLarge : goal.returns-in-ClosureTooLarge
returns-in-ClosureTooLarge c = let a = c.args in
    let x = transformed_call a.n a.starts.now a.rows.now a.values.now a.ncols a.row_starts.now a.columns.now a.weights.now a.limit in
    let l = lists a.result_starts.now a.result_rows.now a.result_values.now a.scratch.now in
    let p = sym c.in_ok-check_transformed.ensures in
    let A = transformed_accepted x (room_of l) (length a.output.now) p in
    let M = c.mark_operator_pairs-requested_pairs.ensures in
    let filled = c.fill_lists-diagnosis.ensures in
    let s = transformed_steps x (room_of l) (length a.output.now) in
    let L = marked_lists l.result_starts l.result_rows l.result_values A.accepted M filled.fills s p in
    let told = marked_answer l.result_starts l.result_rows l.result_values A.accepted M filled.fills in
    let status = status_tells (transformed_selection x) ClosureTooLarge (ap (λ (d : SelectedInverseDiagnostics). d.status) (sym told) ∙ c.in-ClosureTooLarge.is) in
    record { selected = output-large s (transformed_selection x) (transformed_values x) l a.output.now p _ L told c.clear_scratch.ensures status }

pub operator_values-requires : goal.operator_values-requires
operator_values-requires c = let a = c.args in
    let x = transformed_call a.n a.starts.now a.rows.now a.values.now a.ncols a.row_starts.now a.columns.now a.weights.now a.limit in
    let l = lists a.result_starts.now a.result_rows.now a.result_values.now a.scratch.now in
    let p = sym c.in_ok-check_transformed.ensures in
    let A = transformed_accepted x (room_of l) (length a.output.now) p in
    let M = c.mark_operator_pairs-requested_pairs.ensures in
    let filled = c.fill_lists-diagnosis.ensures in
    let s = transformed_steps x (room_of l) (length a.output.now) in
    let L = marked_lists l.result_starts l.result_rows l.result_values A.accepted M filled.fills s p in
    let told = marked_answer l.result_starts l.result_rows l.result_values A.accepted M filled.fills in
    let status = status_tells (transformed_selection x) Complete (ap (λ (d : SelectedInverseDiagnostics). d.status) (sym told) ∙ c.in-Complete.is) in
    let P = filled.positions _ (marked_are l.result_starts l.result_rows l.result_values A.accepted M) status in
    transformed_reading x l a.output.now p _ L A status P (filled.long ∙ M.long)

pub clear_scratch-requires-in-Complete : goal.clear_scratch-requires-in-Complete
clear_scratch-requires-in-Complete c = let a = c.args in
    let x = transformed_call a.n a.starts.now a.rows.now a.values.now a.ncols a.row_starts.now a.columns.now a.weights.now a.limit in
    let l = lists a.result_starts.now a.result_rows.now a.result_values.now a.scratch.now in
    let p = sym c.in_ok-check_transformed.ensures in
    let A = transformed_accepted x (room_of l) (length a.output.now) p in
    (A.accepted.small, omega (arith, c.fill_lists-diagnosis.ensures.long, c.mark_operator_pairs-requested_pairs.ensures.long, A.accepted.scratch_room))

pub returns-in_err-check_transformed : goal.returns-in_err-check_transformed
returns-in_err-check_transformed c = let a = c.args in
    let x = transformed_call a.n a.starts.now a.rows.now a.values.now a.ncols a.row_starts.now a.columns.now a.weights.now a.limit in
    let l = lists a.result_starts.now a.result_rows.now a.result_values.now a.scratch.now in
    rw (returned_is _ _ c.from_residual.ensures.1)
    (record { selected = output-refused (transformed_steps x (room_of l) (length a.output.now)) (transformed_selection x) (transformed_values x) l a.output.now (sym c.in_err-check_transformed.ensures) })

pub returns : goal.returns
returns c = let a = c.args in
    let x = transformed_call a.n a.starts.now a.rows.now a.values.now a.ncols a.row_starts.now a.columns.now a.weights.now a.limit in
    let l = lists a.result_starts.now a.result_rows.now a.result_values.now a.scratch.now in
    let p = sym c.in_ok-check_transformed.ensures in
    let A = transformed_accepted x (room_of l) (length a.output.now) p in
    let M = c.mark_operator_pairs-requested_pairs.ensures in
    let filled = c.fill_lists-diagnosis.ensures in
    let s = transformed_steps x (room_of l) (length a.output.now) in
    let L = marked_lists l.result_starts l.result_rows l.result_values A.accepted M filled.fills s p in
    let told = marked_answer l.result_starts l.result_rows l.result_values A.accepted M filled.fills in
    let status = status_tells (transformed_selection x) Complete (ap (λ (d : SelectedInverseDiagnostics). d.status) (sym told) ∙ c.in-Complete.is) in
    let P = filled.positions _ (marked_are l.result_starts l.result_rows l.result_values A.accepted M) status in
    record {
      selected = output_within s (transformed_selection x) (transformed_values x) l a.output.now p _ L told c.clear_scratch-in-Complete.ensures status
          (c.operator_values.ensures ∙ ap (λ (z : List Float). overwrite z a.output.now) (transformed_written x l a.output.now p _ L A status P));
    }
