-- A track of cells over a result of whole numbers and a width: what is refused, and the variance of each run. Assumes nothing.
use Rattle.std.specs.Prelude.{ℕ, ◌+◌, min, ◌≡◌, Bool, List, [], ◌∷◌, eqb, ltb, length, get_or, ℤ}
use Rattle.lists.specs.Test.{any}
use Rattle.lists.specs.Overwrite.{overwrite}
use Rattle.refusal.specs.Steps.{Step, Reply, verdict, after}
use Rattle.refusal.specs.Groups.{grouped}
use Rattle.refusal.specs.Bounds.{output_steps}
use Rattle.result.specs.Lookup.{result_steps}
use Rattle.whole_pairs.specs.Worst.{worst, worst_in}
use Rattle.whole_pairs.specs.Entry.{entry_or_zero, absent_pair, beyond_pair, cell_fault}
use Rattle.run_sums.specs.Runs.{cell_entry, runs, run_sums}

-- the entry at the cells of two places of the track
abbrev pub track_entry : List ℕ → List ℕ → List ℤ → List ℕ → ℕ → ℕ → ℤ
track_entry starts rows values track = cell_entry (entry_or_zero starts rows values) track

-- the widest run, and the largest entry, 2^40
abbrev pub max_width : ℕ
max_width = 1024

abbrev pub max_track_entry : ℕ
max_track_entry = 1099511627776

-- 22: a width of 0, above 1,024, or above the track's length
unfoldable pub width_steps : ℕ → ℕ → List Step
width_steps cells width = (22, eqb width 0) ∷ (22, ltb max_width width) ∷ (22, ltb cells width) ∷ []

-- a pair of places of the run of k places from i on passes a test
abbrev pub some_places : (ℕ → ℕ → Bool) → ℕ → ℕ → Bool
some_places test k i = any (λ a. any (λ b. test (i + a) (i + b)) k) k

-- so does one of some run
abbrev pub some_run : (ℕ → ℕ → Bool) → ℕ → ℕ → Bool
some_run test cells k = any (some_places test k) (runs cells k)

-- the pair of the cells at two places is absent, or its entry beyond 2^40 in size
abbrev pub absent_at : List ℕ → List ℕ → List ℤ → List ℕ → ℕ → ℕ → Bool
absent_at starts rows values track p q = absent_pair starts rows values (get_or track p 0) (get_or track q 0)

abbrev pub beyond_at : List ℕ → List ℕ → List ℤ → List ℕ → ℕ → ℕ → Bool
beyond_at starts rows values track p q = beyond_pair max_track_entry starts rows values (get_or track p 0) (get_or track q 0)

-- 8: an absent pair of some run; 20: an entry of some run beyond 2^40 in size
unfoldable pub run_steps : List ℕ → List ℕ → List ℤ → List ℕ → ℕ → List Step
run_steps starts rows values track width =
    (8, some_run (absent_at starts rows values track) (length track) width) ∷ (20, some_run (beyond_at starts rows values track) (length track) width) ∷ []

-- all: 2 and 3 of the result, 22, 8, 20 and 7; `room` is the output's length
unfoldable pub track_steps : List ℕ → List ℕ → List ℤ → List ℕ → ℕ → ℕ → List Step
track_steps starts rows values track width room =
    grouped
    (result_steps starts rows (length values)
    ∷ width_steps (length track) width
    ∷ run_steps starts rows values track width ∷ output_steps (runs (length track) width) room
    ∷ [])

-- the variance of each run
abbrev pub track_variances : List ℕ → List ℕ → List ℤ → List ℕ → ℕ → List ℤ
track_variances starts rows values track width = run_sums (entry_or_zero starts rows values) track width

-- what the call replies and leaves in its output
pub record VariancesAlong (starts rows : List ℕ) (values : List ℤ) (track : List ℕ) (width : ℕ) (output : List ℤ) (reply : Reply (Unit {0})) (left : List ℤ) : Type 0 where
  pub replies : reply ≡ verdict (track_steps starts rows values track width (length output))
  pub output_after_lem : left ≡ after (track_steps starts rows values track width (length output)) (overwrite (track_variances starts rows values track width) output) output

-- the worst fault of the pairs of places less than `width` apart
abbrev pub track_fault : List ℕ → List ℕ → List ℤ → List ℕ → ℕ → ℕ
track_fault starts rows values track width =
    worst (λ p. worst_in (cell_fault max_track_entry starts rows values track p) p (min (p + width) (length track))) (length track)
