use Rattle.whole_selection.specs.Call.{WholeLent, whole_lent}
use Rattle.whole_entries.proofs.SetLaws.{complete_exceeds, complete_layout, complete_reached, complete_count, complete_done}
use Rattle.whole_entries.proofs.filling.fill_complete.Goals as goal

-- the lists that it is lent
abbrev lent-Then-set_exceeds : goal.Then-set_exceeds → WholeLent
lent-Then-set_exceeds s = let a = s.args in whole_lent a.result_starts.now a.result_rows.now a.result_values.now a.scratch.now a.work.now

-- the lists that it is lent
abbrev lent-After-lay_out-arg-3-1 : goal.After-lay_out-arg-3-1 → WholeLent
lent-After-lay_out-arg-3-1 s = let a = s.args in whole_lent a.result_starts.now a.result_rows.now a.result_values.now a.scratch.now a.work.now

-- the lists that it is lent
abbrev lent-After-copy_wholes-arg-1 : goal.After-copy_wholes-arg-1 → WholeLent
lent-After-copy_wholes-arg-1 s = let a = s.args in whole_lent a.result_starts.now a.result_rows.now a.result_values.now a.scratch.now a.work.now

-- the lists that it is lent
abbrev lent-After-result_values-1 : goal.After-result_values-1 → WholeLent
lent-After-result_values-1 s = let a = s.args in whole_lent a.result_starts.now a.result_rows.now a.result_values.now a.scratch.now a.work.now

pub returns-then-set_exceeds : goal.returns-then-set_exceeds
returns-then-set_exceeds c = complete_exceeds (lent-Then-set_exceeds c) c.requires c.set_exceeds.ensures c.if-set_exceeds.true

pub lay_out-count-requires : goal.lay_out-count-requires
lay_out-count-requires c = (complete_layout (lent-After-lay_out-arg-3-1 c) c.requires c.set_exceeds.ensures, c.requires.set.reached_long, complete_reached (lent-After-lay_out-arg-3-1 c) c.requires c.set_exceeds.ensures)

pub copy_wholes-requires : goal.copy_wholes-requires
copy_wholes-requires c = complete_count (lent-After-copy_wholes-arg-1 c) c.requires c.set_exceeds.ensures c.lay_out-count.ensures

pub returns : goal.returns
returns c = complete_done (lent-After-result_values-1 c) c.requires c.set_exceeds.ensures c.lay_out-count.ensures c.if-set_exceeds.false c.copy_wholes.ensures
