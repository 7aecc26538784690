use Rattle.track_variances.specs.Track.{track_entry}
use Rattle.track_variances.specs.Slots.{Slots}
use Rattle.track_variances.proofs.runs.all_cells.Given as goal

abbrev pub invariant-loop-c : goal.invariant-loop-c
invariant-loop-c l = Slots (track_entry l.starts l.rows l.values l.track) l.k l.c l.list
