use Rattle.starred_table.specs.Counts.{counted_complete, counted_large}
use Rattle.starred_table.specs.Table.{closed_sets}
use Rattle.starred.proofs.closed_sets.pairs_of_f2.Goals as goal

-- src/closed_sets.rt:46:5
pub f2_pair_shows-requires : goal.f2_pair_shows-requires
f2_pair_shows-requires c = counted_complete 1 3 3 3 closed_sets.f2_first

-- src/closed_sets.rt:47:5
pub f2_pair_shows-requires-2 : goal.f2_pair_shows-requires-2
f2_pair_shows-requires-2 c = counted_large 1 3 3 2 closed_sets.f2_limited

-- src/closed_sets.rt:48:5
pub f2_pair_shows-requires-3 : goal.f2_pair_shows-requires-3
f2_pair_shows-requires-3 c = counted_complete 1 2 3 3 closed_sets.f2_below

-- src/closed_sets.rt:49:5
pub f2_pair_shows-requires-4 : goal.f2_pair_shows-requires-4
f2_pair_shows-requires-4 c = counted_complete 1 1 3 3 closed_sets.f2_last
