use Prim.Native.Nat.{◌-◌}
use mathlib.Core.Path.{◌≡◌}
use Rattle.run_sums.specs.Slide.{line_sum}
use Rattle.track_variances.specs.Track.{track_entry}
use Rattle.track_variances.specs.Slots.{Met}
use Rattle.track_variances.proofs.cells.come.Given as goal

abbrev pub invariant-loop-p : goal.invariant-loop-p
invariant-loop-p l = record {
  line_is : l.line ≡ line_sum (track_entry l.starts l.rows l.values l.track) l.c l.f (l.p - l.f);
  met : Met (track_entry l.starts l.rows l.values l.track) l.c l.f l.p l.initial.list l.list;
}
