use Rattle.starred_table.specs.Counts.{counted_complete}
use Rattle.starred_table.specs.Table.{closed_sets}
use Rattle.starred.proofs.closed_sets.requests_of_f2.Goals as goal

-- src/closed_sets.rt:54:5
pub f2_shows-requires : goal.f2_shows-requires
f2_shows-requires c = counted_complete 1 2 3 3 closed_sets.f2_repeated

-- src/closed_sets.rt:55:5
pub f2_shows-requires-2 : goal.f2_shows-requires-2
f2_shows-requires-2 c = counted_complete 0 0 3 0 closed_sets.f2_none
