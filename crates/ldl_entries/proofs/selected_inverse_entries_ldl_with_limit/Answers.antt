use Rattle.std.proofs.Common.{sym}
use Rattle.refusal.proofs.Returned.{returned_is}
use Rattle.pairs.proofs.Scratch.{scratch_words_room}
use Rattle.selection.specs.Selection.{lists, room_of}
use Rattle.selection.specs.LdlCall.{ldl_call, ldl_steps}
use Rattle.selection.proofs.LdlCall.{ldl_accepted, ldl_requests}
use Rattle.fill.specs.Fill.{marked_input, marked_answer, marked_lists}
use Rattle.ldl_entries.proofs.Reply.{entries_refused, entries_answered}
use Rattle.ldl_entries.proofs.selected_inverse_entries_ldl_with_limit.Goals as goal

pub mark_requests-requested_pairs-requires : goal.mark_requests-requested_pairs-requires
mark_requests-requested_pairs-requires c = let a = c.args in
    let x = ldl_call a.n a.starts.now a.rows.now a.values.now a.pivots.now a.dimension a.request_rows.now a.request_columns.now a.limit in
    let r = room_of (lists a.result_starts.now a.result_rows.now a.result_values.now a.scratch.now) in
    let p = sym c.in_ok-check_ldl.ensures in
    let A = ldl_accepted x r p in
    record { small = A.small; requests = ldl_requests x r p; room = scratch_words_room x.factor.n A.scratch_room }

pub fill_entries-diagnosis-requires : goal.fill_entries-diagnosis-requires
fill_entries-diagnosis-requires c = let a = c.args in
    let x = ldl_call a.n a.starts.now a.rows.now a.values.now a.pivots.now a.dimension a.request_rows.now a.request_columns.now a.limit in
    let r = room_of (lists a.result_starts.now a.result_rows.now a.result_values.now a.scratch.now) in
    marked_input a.result_starts.now a.result_rows.now a.result_values.now (ldl_accepted x r (sym c.in_ok-check_ldl.ensures)) c.mark_requests-requested_pairs.ensures

pub returns-in_err-check_ldl : goal.returns-in_err-check_ldl
returns-in_err-check_ldl c = let a = c.args in
    rw (returned_is _ _ c.from_residual.ensures.1)
    (entries_refused (ldl_call a.n a.starts.now a.rows.now a.values.now a.pivots.now a.dimension a.request_rows.now a.request_columns.now a.limit)
    (lists a.result_starts.now a.result_rows.now a.result_values.now a.scratch.now) (sym c.in_err-check_ldl.ensures))

pub returns : goal.returns
returns c = let a = c.args in
    let x = ldl_call a.n a.starts.now a.rows.now a.values.now a.pivots.now a.dimension a.request_rows.now a.request_columns.now a.limit in
    let l = lists a.result_starts.now a.result_rows.now a.result_values.now a.scratch.now in
    let p = sym c.in_ok-check_ldl.ensures in
    let A = ldl_accepted x (room_of l) p in
    entries_answered x l p
    (marked_answer l.result_starts l.result_rows l.result_values A c.mark_requests-requested_pairs.ensures c.fill_entries-diagnosis.ensures)
    (marked_lists l.result_starts l.result_rows l.result_values A c.mark_requests-requested_pairs.ensures c.fill_entries-diagnosis.ensures (ldl_steps x (room_of l)) p)
