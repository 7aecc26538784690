use Prim.Native.Nat.{ℕ}
use Rattle.std.proofs.Common.{arith, List, length, sym, ap, subst, ◌∙◌}
use lib.Ieee.{Float}
use Rattle.refusal.proofs.Returned.{returned_is}
use Rattle.pairs.proofs.Scratch.{scratch_words_room}
use Rattle.columns.specs.Operator.{OperatorRows}
use Rattle.diagnostics.specs.declared.SelectedInverseDiagnostics.{SelectedInverseDiagnostics}
use Rattle.diagnostics.specs.declared.SelectedInverseStatus.TheVariants.{Complete, ClosureTooLarge}
use Rattle.selection.specs.Selection.{lists, room_of}
use Rattle.selection.proofs.Status.{status_tells}
use Rattle.fill.specs.Fill.{marked_are, marked_input, marked_answer, marked_lists}
use Rattle.operator_values.proofs.Output.{output-refused, output-large, output_within}
use Rattle.lists.specs.Overwrite.{overwrite, filled-length}
use Rattle.covariances_with_limit.specs.Covariances.{operator, covariance_call, covariance_selection, covariance_steps, covariance_values, covariance_accepted}
use Rattle.covariances_with_limit.proofs.Reply.{covariance_reading, covariance_written}
use Rattle.covariances_with_limit.proofs.selected_inverse_transformed_covariances_with_limit.Goals as goal

pub mark_cross_pairs-requested_pairs-requires : goal.mark_cross_pairs-requested_pairs-requires
mark_cross_pairs-requested_pairs-requires c = let a = c.args in
    let x = covariance_call a.n a.starts.now a.rows.now a.values.now
    (operator a.a_ncols a.a_row_starts.now a.a_columns.now a.a_weights.now)
    (operator a.b_ncols a.b_row_starts.now a.b_columns.now a.b_weights.now)
    a.a_rows.now a.b_rows.now a.limit in
    let l = lists a.result_starts.now a.result_rows.now a.result_values.now a.scratch.now in
    let p = sym c.in_ok-check_covariances.ensures in
    let A = covariance_accepted x (room_of l) (length a.output.now) p in
    let O = A.operators in
    record {
      small = A.accepted.small;
      pairs = record {
        first = subst (OperatorRows _ _ _) O.first.weighed O.first;
        second = subst (OperatorRows _ _ _) O.second.weighed O.second;
        paired = O.paired;
        inside = O.inside;
        inside₂ = O.inside₂;
      };
      room = scratch_words_room _ A.accepted.scratch_room;
    }

pub fill_lists-diagnosis-requires : goal.fill_lists-diagnosis-requires
fill_lists-diagnosis-requires c = let a = c.args in
    let x = covariance_call a.n a.starts.now a.rows.now a.values.now
    (operator a.a_ncols a.a_row_starts.now a.a_columns.now a.a_weights.now)
    (operator a.b_ncols a.b_row_starts.now a.b_columns.now a.b_weights.now)
    a.a_rows.now a.b_rows.now a.limit in
    let l = lists a.result_starts.now a.result_rows.now a.result_values.now a.scratch.now in
    let p = sym c.in_ok-check_covariances.ensures in
    let A = covariance_accepted x (room_of l) (length a.output.now) p in
    marked_input l.result_starts l.result_rows l.result_values A.accepted c.mark_cross_pairs-requested_pairs.ensures

pub clear_scratch-requires : goal.clear_scratch-requires
clear_scratch-requires c = let a = c.args in
    let x = covariance_call a.n a.starts.now a.rows.now a.values.now
    (operator a.a_ncols a.a_row_starts.now a.a_columns.now a.a_weights.now)
    (operator a.b_ncols a.b_row_starts.now a.b_columns.now a.b_weights.now)
    a.a_rows.now a.b_rows.now a.limit in
    let l = lists a.result_starts.now a.result_rows.now a.result_values.now a.scratch.now in
    let p = sym c.in_ok-check_covariances.ensures in
    let A = covariance_accepted x (room_of l) (length a.output.now) p in
    (A.accepted.small, omega (arith, c.fill_lists-diagnosis.ensures.long, c.mark_cross_pairs-requested_pairs.ensures.long, A.accepted.scratch_room))

pub returns-in-ClosureTooLarge : goal.returns-in-ClosureTooLarge
returns-in-ClosureTooLarge c = let a = c.args in
    let x = covariance_call a.n a.starts.now a.rows.now a.values.now
    (operator a.a_ncols a.a_row_starts.now a.a_columns.now a.a_weights.now)
    (operator a.b_ncols a.b_row_starts.now a.b_columns.now a.b_weights.now)
    a.a_rows.now a.b_rows.now a.limit in
    let l = lists a.result_starts.now a.result_rows.now a.result_values.now a.scratch.now in
    let p = sym c.in_ok-check_covariances.ensures in
    let A = covariance_accepted x (room_of l) (length a.output.now) p in
    let M = c.mark_cross_pairs-requested_pairs.ensures in
    let filled = c.fill_lists-diagnosis.ensures in
    let s = covariance_steps x (room_of l) (length a.output.now) in
    let L = marked_lists l.result_starts l.result_rows l.result_values A.accepted M filled.fills s p in
    let told = marked_answer l.result_starts l.result_rows l.result_values A.accepted M filled.fills in
    let status = status_tells (covariance_selection x) ClosureTooLarge (ap (λ (d : SelectedInverseDiagnostics). d.status) (sym told) ∙ c.in-ClosureTooLarge.is) in
    record { selected = output-large s (covariance_selection x) (covariance_values x) l a.output.now p _ L told c.clear_scratch.ensures status }

pub row_pair_values-requires : goal.row_pair_values-requires
row_pair_values-requires c = let a = c.args in
    let x = covariance_call a.n a.starts.now a.rows.now a.values.now
    (operator a.a_ncols a.a_row_starts.now a.a_columns.now a.a_weights.now)
    (operator a.b_ncols a.b_row_starts.now a.b_columns.now a.b_weights.now)
    a.a_rows.now a.b_rows.now a.limit in
    let l = lists a.result_starts.now a.result_rows.now a.result_values.now a.scratch.now in
    let p = sym c.in_ok-check_covariances.ensures in
    let A = covariance_accepted x (room_of l) (length a.output.now) p in
    let M = c.mark_cross_pairs-requested_pairs.ensures in
    let filled = c.fill_lists-diagnosis.ensures in
    let s = covariance_steps x (room_of l) (length a.output.now) in
    let L = marked_lists l.result_starts l.result_rows l.result_values A.accepted M filled.fills s p in
    let told = marked_answer l.result_starts l.result_rows l.result_values A.accepted M filled.fills in
    let status = status_tells (covariance_selection x) Complete (ap (λ (d : SelectedInverseDiagnostics). d.status) (sym told) ∙ c.in-Complete.is) in
    let P = filled.positions _ (marked_are l.result_starts l.result_rows l.result_values A.accepted M) status in
    covariance_reading x l a.output.now p _ L A status P (filled.long ∙ M.long)

pub clear_scratch-requires-in-Complete : goal.clear_scratch-requires-in-Complete
clear_scratch-requires-in-Complete c = let a = c.args in
    let x = covariance_call a.n a.starts.now a.rows.now a.values.now
    (operator a.a_ncols a.a_row_starts.now a.a_columns.now a.a_weights.now)
    (operator a.b_ncols a.b_row_starts.now a.b_columns.now a.b_weights.now)
    a.a_rows.now a.b_rows.now a.limit in
    let l = lists a.result_starts.now a.result_rows.now a.result_values.now a.scratch.now in
    let p = sym c.in_ok-check_covariances.ensures in
    let A = covariance_accepted x (room_of l) (length a.output.now) p in
    (A.accepted.small, omega (arith, c.fill_lists-diagnosis.ensures.long, c.mark_cross_pairs-requested_pairs.ensures.long, A.accepted.scratch_room))

pub returns-in_err-check_covariances : goal.returns-in_err-check_covariances
returns-in_err-check_covariances c = let a = c.args in
    let x = covariance_call a.n a.starts.now a.rows.now a.values.now
    (operator a.a_ncols a.a_row_starts.now a.a_columns.now a.a_weights.now)
    (operator a.b_ncols a.b_row_starts.now a.b_columns.now a.b_weights.now)
    a.a_rows.now a.b_rows.now a.limit in
    let l = lists a.result_starts.now a.result_rows.now a.result_values.now a.scratch.now in
    rw (returned_is _ _ c.from_residual.ensures.1)
    (record { selected = output-refused (covariance_steps x (room_of l) (length a.output.now)) (covariance_selection x) (covariance_values x) l a.output.now (sym c.in_err-check_covariances.ensures) })

pub shape_of-scratch : goal.shape_of-scratch
shape_of-scratch c = let a = c.args in
    let x = covariance_call a.n a.starts.now a.rows.now a.values.now
    (operator a.a_ncols a.a_row_starts.now a.a_columns.now a.a_weights.now)
    (operator a.b_ncols a.b_row_starts.now a.b_columns.now a.b_weights.now)
    a.a_rows.now a.b_rows.now a.limit in
    let l = lists a.result_starts.now a.result_rows.now a.result_values.now a.scratch.now in
    let p = sym c.in_ok-check_covariances.ensures in
    let A = covariance_accepted x (room_of l) (length a.output.now) p in
    let long = c.fill_lists-diagnosis.ensures.long ∙ c.mark_cross_pairs-requested_pairs.ensures.long in
    ap length c.clear_scratch-in-Complete.ensures ∙ filled-length (λ (_ : ℕ). 0) _ _ (omega (arith, long, A.accepted.scratch_room)) ∙ long

pub returns : goal.returns
returns c = let a = c.args in
    let x = covariance_call a.n a.starts.now a.rows.now a.values.now
    (operator a.a_ncols a.a_row_starts.now a.a_columns.now a.a_weights.now)
    (operator a.b_ncols a.b_row_starts.now a.b_columns.now a.b_weights.now)
    a.a_rows.now a.b_rows.now a.limit in
    let l = lists a.result_starts.now a.result_rows.now a.result_values.now a.scratch.now in
    let p = sym c.in_ok-check_covariances.ensures in
    let A = covariance_accepted x (room_of l) (length a.output.now) p in
    let M = c.mark_cross_pairs-requested_pairs.ensures in
    let filled = c.fill_lists-diagnosis.ensures in
    let s = covariance_steps x (room_of l) (length a.output.now) in
    let L = marked_lists l.result_starts l.result_rows l.result_values A.accepted M filled.fills s p in
    let told = marked_answer l.result_starts l.result_rows l.result_values A.accepted M filled.fills in
    let status = status_tells (covariance_selection x) Complete (ap (λ (d : SelectedInverseDiagnostics). d.status) (sym told) ∙ c.in-Complete.is) in
    let P = filled.positions _ (marked_are l.result_starts l.result_rows l.result_values A.accepted M) status in
    record {
      selected = output_within s (covariance_selection x) (covariance_values x) l a.output.now p _ L told c.clear_scratch-in-Complete.ensures status
          (c.row_pair_values.ensures ∙ ap (λ (z : List Float). overwrite z a.output.now) (covariance_written x l a.output.now p _ L A status P));
    }
