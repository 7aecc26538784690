use Rattle.starred_table.specs.Counts.{counted_complete, counted_large}
use Rattle.starred_table.specs.Table.{closed_sets}
use Rattle.starred.proofs.closed_sets.limits.Goals as goal

-- src/closed_sets.rt:60:5
pub f2_pair_shows-requires : goal.f2_pair_shows-requires
f2_pair_shows-requires c = counted_large 1 1 3 0 closed_sets.f2_zero

-- src/closed_sets.rt:61:5
pub f2_pair_shows-requires-2 : goal.f2_pair_shows-requires-2
f2_pair_shows-requires-2 c = counted_complete 1 3 3 4294967295 closed_sets.f2_unlimited

-- src/closed_sets.rt:62:5
pub f2_shows-requires : goal.f2_shows-requires
f2_shows-requires c = counted_complete 1 3 3 3 closed_sets.f2_twice

-- src/closed_sets.rt:63:5
pub f2_shows-requires-2 : goal.f2_shows-requires-2
f2_shows-requires-2 c = counted_large 2 1 3 0 closed_sets.f2_many
