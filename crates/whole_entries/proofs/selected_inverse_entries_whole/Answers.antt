use Rattle.selection.specs.Selection.{default_limit}
use Rattle.whole_selection.specs.Call.{WholeCall, WholeLent, whole_call, whole_lent}
use Rattle.whole_entries.proofs.ReplyLaws.{entries_refused, too_many}
use Rattle.whole_entries.proofs.selected_inverse_entries_whole.Goals as goal

-- the call and the lists that it is lent
abbrev handed : goal.Then-rows-gt-MAX_ENTRIES → WholeCall
handed s =
    let a = s.args in
    whole_call a.n a.starts.now a.rows.now a.values.now a.dimension a.request_rows.now a.request_columns.now (default_limit a.rows.now)

abbrev lent : goal.Then-rows-gt-MAX_ENTRIES → WholeLent
lent s = let a = s.args in whole_lent a.result_starts.now a.result_rows.now a.result_values.now a.scratch.now a.work.now

pub returns-then-rows-gt-MAX_ENTRIES : goal.returns-then-rows-gt-MAX_ENTRIES
returns-then-rows-gt-MAX_ENTRIES c = entries_refused (handed c) (lent c) (too_many (handed c) (lent c) c.if-rows-gt-MAX_ENTRIES.true)

pub returns : goal.returns
returns c = rw c.default_limit.ensures at c.selected_inverse_entries_whole_with_limit.ensures
