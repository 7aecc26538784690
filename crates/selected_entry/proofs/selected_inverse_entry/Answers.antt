use borrow.Author.Rules.{rules}
use Rattle.selection.specs.Selection.{Lent, lists, default_limit}
use Rattle.selection.specs.Call.{Call, call}
use Rattle.selected_entry.proofs.Read.{read_ready, read_entry}
use Rattle.selected_entry.proofs.selected_inverse_entry.Goals as goal

-- the call and the lists that it is lent
abbrev handed-After-slice_known-8-1 : goal.After-slice_known-8-1 → Call
handed-After-slice_known-8-1 s =
    let a = s.args in
    call a.n a.starts.now a.rows.now a.values.now a.dimension a.request_rows.now a.request_columns.now (default_limit a.rows.now)

-- the call and the lists that it is lent
abbrev handed-After-look_up : goal.After-look_up → Call
handed-After-look_up s =
    let a = s.args in
    call a.n a.starts.now a.rows.now a.values.now a.dimension a.request_rows.now a.request_columns.now (default_limit a.rows.now)

abbrev lent-After-slice_known-8-1 : goal.After-slice_known-8-1 → Lent
lent-After-slice_known-8-1 s = let a = s.args in lists a.result_starts.now a.result_rows.now a.result_values.now a.scratch.now

abbrev lent-After-look_up : goal.After-look_up → Lent
lent-After-look_up s = let a = s.args in lists a.result_starts.now a.result_rows.now a.result_values.now a.scratch.now

-- src/lib.rt:130:5
pub look_up-requires : goal.look_up-requires
look_up-requires c = read_ready (handed-After-slice_known-8-1 c) (lent-After-slice_known-8-1 c) c.selected_inverse_entries-answer.result c.selected_inverse_entries-answer.ensures (search rules)

-- src/lib.rt:97:1
pub returns : goal.returns
returns c = let a = c.args in
    read_entry (handed-After-look_up c) (lent-After-look_up c) a.row a.col c.selected_inverse_entries-answer.result c.selected_inverse_entries-answer.ensures c.look_up.result c.look_up.ensures
