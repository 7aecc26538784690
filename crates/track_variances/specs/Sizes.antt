-- What the runs' sums may rely on once nothing is refused, and the sizes that follow. Assumes nothing.
use Rattle.std.specs.Prelude.{ℕ, ◌+◌, ◌≤◌, ◌<◌, ◌≡◌, List, length, get_or, ℤ, pos}
use Rattle.integers.specs.Size.{SizeWithin}
use Rattle.refusal.specs.Steps.{answered}
use Rattle.result.specs.Lookup.{lookup_of, WellFormed}
use Rattle.run_sums.specs.Runs.{runs}
use Rattle.track_variances.specs.Track.{max_width, max_track_entry, track_entry}

-- runs of k cells, each pair of a run present and at most 2^40 in size
pub record RunsReady (starts rows : List ℕ) (values : List ℤ) (track : List ℕ) (k : ℕ) : Type 0 where
  pub well : WellFormed starts rows (length values)
  pub wide : 0 < k
  pub few : k ≤ max_width
  pub long : k ≤ length track
  pub found : (i a b : ℕ) → i < runs (length track) k → a < k → b < k
      → lookup_of (pos 0) starts rows values (get_or track (i + a) 0) (get_or track (i + b) 0) ≡ answered (track_entry starts rows values track (i + a) (i + b))
  pub entry : (i a b : ℕ) → i < runs (length track) k → a < k → b < k → SizeWithin max_track_entry (track_entry starts rows values track (i + a) (i + b))
