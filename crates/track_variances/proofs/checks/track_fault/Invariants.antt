use Prim.Native.Nat.{ℕ, ◌+◌, min}
use mathlib.Core.Path.{◌≡◌}
use mathlib.Core.List.{List}
use lib.ListN.{length}
use lib.IntN.{ℤ}
use Rattle.whole_pairs.specs.Entry.{cell_fault}
use Rattle.track_variances.specs.Track.{max_track_entry}
use Rattle.whole_pairs.specs.Worst.{worst, worst_in}
use Rattle.track_variances.proofs.checks.track_fault.Given as goal

-- the worst fault of place p with those up to width - 1 further
abbrev pub line : List ℕ → List ℕ → List ℤ → List ℕ → ℕ → ℕ → ℕ
line starts rows values track width p = worst_in (cell_fault max_track_entry starts rows values track p) p (min (p + width) (length track))

abbrev pub invariant-loop-p : goal.invariant-loop-p
invariant-loop-p l = l.found ≡ worst (line l.starts l.rows l.values l.track l.width) l.p
