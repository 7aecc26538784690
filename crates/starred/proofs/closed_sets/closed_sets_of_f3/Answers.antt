use Rattle.starred_table.specs.Counts.{counted_complete, counted_large}
use Rattle.starred_table.specs.Table.{closed_sets}
use Rattle.starred.proofs.closed_sets.closed_sets_of_f3.Goals as goal

-- src/closed_sets.rt:86:5
pub f3_shows-requires : goal.f3_shows-requires
f3_shows-requires c = counted_complete 1 6 5 6 closed_sets.f3_first

-- src/closed_sets.rt:87:5
pub f3_shows-requires-2 : goal.f3_shows-requires-2
f3_shows-requires-2 c = counted_large 1 6 5 5 closed_sets.f3_limited
