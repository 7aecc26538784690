use Rattle.std.proofs.Common.{sym}
use Rattle.refusal.proofs.Returned.{returned_is}
use Rattle.whole_selection.specs.Call.{whole_call, whole_lent}
use Rattle.whole_entries.proofs.ReplyLaws.{entries_refused}
use Rattle.whole_entries.proofs.selected_inverse_entries_whole_with_limit.Goals as goal

pub fill_whole-requires : goal.fill_whole-requires
fill_whole-requires c = sym c.in_ok-check_whole.ensures

pub returns-in_err-check_whole : goal.returns-in_err-check_whole
returns-in_err-check_whole c = let a = c.args in
    rw (returned_is _ _ c.from_residual.ensures.1)
    (entries_refused (whole_call a.n a.starts.now a.rows.now a.values.now a.dimension a.request_rows.now a.request_columns.now a.limit)
    (whole_lent a.result_starts.now a.result_rows.now a.result_values.now a.scratch.now a.work.now) (sym c.in_err-check_whole.ensures))

pub returns : goal.returns
returns c = c.fill_whole.ensures
