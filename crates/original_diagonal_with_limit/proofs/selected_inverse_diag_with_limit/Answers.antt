use Rattle.std.proofs.Common.{length, sym, ap, ◌∙◌}
use Rattle.refusal.proofs.Returned.{returned_is}
use Rattle.pairs.proofs.Scratch.{scratch_words_room}
use Rattle.diagnostics.specs.declared.SelectedInverseDiagnostics.{SelectedInverseDiagnostics}
use Rattle.diagnostics.specs.declared.SelectedInverseStatus.TheVariants.{Complete, ClosureTooLarge}
use Rattle.selection.specs.Selection.{lists, room_of}
use Rattle.selection.proofs.Status.{status_tells}
use Rattle.fill.specs.Fill.{marked_input, marked_answer, marked_lists}
use Rattle.original_diagonal_with_limit.specs.Original.{original_call, original_selection, original_steps, original_accepted}
use Rattle.original_diagonal_with_limit.proofs.Reply.{original_refused, original_large, original_input, original_done}
use Rattle.original_diagonal_with_limit.proofs.selected_inverse_diag_with_limit.Goals as goal

pub mark_diagonals-requested_pairs-requires : goal.mark_diagonals-requested_pairs-requires
mark_diagonals-requested_pairs-requires c = let a = c.args in
    let x = original_call a.n a.starts.now a.rows.now a.values.now a.orig_to_perm.now a.limit in
    let l = lists a.result_starts.now a.result_rows.now a.result_values.now a.scratch.now in
    let p = sym c.in_ok-check_original.ensures in
    let A = original_accepted x (room_of l) (length a.output.now) p in
    record { small = A.accepted.small; room = scratch_words_room _ A.accepted.scratch_room }

pub fill_entries-diagnosis-requires : goal.fill_entries-diagnosis-requires
fill_entries-diagnosis-requires c = let a = c.args in
    let x = original_call a.n a.starts.now a.rows.now a.values.now a.orig_to_perm.now a.limit in
    let l = lists a.result_starts.now a.result_rows.now a.result_values.now a.scratch.now in
    let p = sym c.in_ok-check_original.ensures in
    let A = original_accepted x (room_of l) (length a.output.now) p in
    marked_input l.result_starts l.result_rows l.result_values A.accepted c.mark_diagonals-requested_pairs.ensures

pub write_original-requires : goal.write_original-requires
write_original-requires c = let a = c.args in
    let x = original_call a.n a.starts.now a.rows.now a.values.now a.orig_to_perm.now a.limit in
    let l = lists a.result_starts.now a.result_rows.now a.result_values.now a.scratch.now in
    let p = sym c.in_ok-check_original.ensures in
    let A = original_accepted x (room_of l) (length a.output.now) p in
    let M = c.mark_diagonals-requested_pairs.ensures in
    let filled = c.fill_entries-diagnosis.ensures in
    let L = marked_lists l.result_starts l.result_rows l.result_values A.accepted M filled (original_steps x (room_of l) (length a.output.now)) p in
    let status = status_tells (original_selection x) Complete
    (ap (λ (d : SelectedInverseDiagnostics). d.status) (sym (marked_answer l.result_starts l.result_rows l.result_values A.accepted M filled)) ∙ c.in-Complete.is) in
    original_input x l a.output.now p L A status

pub returns-in_err-check_original : goal.returns-in_err-check_original
returns-in_err-check_original c = let a = c.args in
    let x = original_call a.n a.starts.now a.rows.now a.values.now a.orig_to_perm.now a.limit in
    let l = lists a.result_starts.now a.result_rows.now a.result_values.now a.scratch.now in
    rw (returned_is _ _ c.from_residual.ensures.1) (original_refused x l a.output.now (sym c.in_err-check_original.ensures))

pub returns-in-ClosureTooLarge : goal.returns-in-ClosureTooLarge
returns-in-ClosureTooLarge c = let a = c.args in
    let x = original_call a.n a.starts.now a.rows.now a.values.now a.orig_to_perm.now a.limit in
    let l = lists a.result_starts.now a.result_rows.now a.result_values.now a.scratch.now in
    let p = sym c.in_ok-check_original.ensures in
    let A = original_accepted x (room_of l) (length a.output.now) p in
    let M = c.mark_diagonals-requested_pairs.ensures in
    let filled = c.fill_entries-diagnosis.ensures in
    let L = marked_lists l.result_starts l.result_rows l.result_values A.accepted M filled (original_steps x (room_of l) (length a.output.now)) p in
    let status = status_tells (original_selection x) ClosureTooLarge
    (ap (λ (d : SelectedInverseDiagnostics). d.status) (sym (marked_answer l.result_starts l.result_rows l.result_values A.accepted M filled)) ∙ c.in-ClosureTooLarge.is) in
    original_large x l a.output.now p L status

pub returns-in-Complete : goal.returns-in-Complete
returns-in-Complete c = let a = c.args in
    let x = original_call a.n a.starts.now a.rows.now a.values.now a.orig_to_perm.now a.limit in
    let l = lists a.result_starts.now a.result_rows.now a.result_values.now a.scratch.now in
    let p = sym c.in_ok-check_original.ensures in
    let A = original_accepted x (room_of l) (length a.output.now) p in
    let M = c.mark_diagonals-requested_pairs.ensures in
    let filled = c.fill_entries-diagnosis.ensures in
    let L = marked_lists l.result_starts l.result_rows l.result_values A.accepted M filled (original_steps x (room_of l) (length a.output.now)) p in
    let status = status_tells (original_selection x) Complete
    (ap (λ (d : SelectedInverseDiagnostics). d.status) (sym (marked_answer l.result_starts l.result_rows l.result_values A.accepted M filled)) ∙ c.in-Complete.is) in
    original_done x l a.output.now p L A status
    (marked_answer l.result_starts l.result_rows l.result_values A.accepted M filled) c.write_original.ensures
