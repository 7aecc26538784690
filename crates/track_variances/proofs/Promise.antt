-- What an accepted call promises: every pair of every run is in the result, each place of the output is the full sum over its run's entries,
-- and comes from the place before by what leaves and what comes. Assumes nothing.
use Rattle.std.specs.Prelude.{ℕ, suc, ◌+◌, ◌≤◌, ◌<◌, ◌≡◌, List, length, get_or, ℤ, pos, ◌+ℤ◌, ◌-ℤ◌}
use Rattle.std.proofs.Common.{arith, sym, ap, ◌∙◌}
use Rattle.lists.specs.Overwrite.{overwrite, overwrite_at, overwrite_past}
use Rattle.refusal.specs.Steps.{answered, Passed}
use Rattle.refusal.proofs.Steps.{after_passed}
use Rattle.columns.specs.WholeFactor.{whole_value}
use Rattle.result.specs.Lookup.{lookup_of}
use Rattle.whole_pairs.specs.Entry.{entry_or_zero}
use Rattle.run_sums.specs.Runs.{runs, block_sum, run_sum}
use Rattle.run_sums.proofs.Runs.{run_sums-length, run_sums_at}
use Rattle.run_sums.specs.Slide.{strip}
use Rattle.run_sums.proofs.Slide.{run_slide}
use Rattle.track_variances.specs.Track.{track_entry, track_steps, track_variances, VariancesAlong}
use Rattle.track_variances.proofs.Laws.{runs_ready, entries_symmetric}

module _ (starts rows : List ℕ) (values : List ℤ) (track : List ℕ) (width : ℕ) (output left : List ℤ)
    (A : VariancesAlong starts rows values track width output (answered tt) left) where
  passed : Passed (track_steps starts rows values track width (length output))
  passed = sym A.replies

  -- the lookup finds every pair of a run, and what it finds is the entry that the variance is made of
  pub along_found : (i a b : ℕ) → i < runs (length track) width → a < width → b < width
      → lookup_of (pos 0) starts rows values (get_or track (i + a) 0) (get_or track (i + b) 0) ≡ answered (track_entry starts rows values track (i + a) (i + b))
  along_found = (runs_ready starts rows values track width (length output) passed).0.found

  written : left ≡ overwrite (track_variances starts rows values track width) output
  written = A.output_after_lem ∙ after_passed (track_steps starts rows values track width (length output)) _ output passed

  count : length (track_variances starts rows values track width) ≡ runs (length track) width
  count = run_sums-length (entry_or_zero starts rows values) track width

  -- the variance of each run, and the later places as they were
  pub along-run : (i : ℕ) → i < runs (length track) width → whole_value left i ≡ run_sum (entry_or_zero starts rows values) track width i
  along-run i h =
      ap (λ (l : List ℤ). whole_value l i) written ∙ overwrite_at (track_variances starts rows values track width) output i (pos 0) (omega (arith, count))
      ∙ run_sums_at (entry_or_zero starts rows values) track width i (pos 0) h

  pub along_later : (i : ℕ) → runs (length track) width ≤ i → whole_value left i ≡ whole_value output i
  along_later i h = ap (λ (l : List ℤ). whole_value l i) written ∙ overwrite_past (track_variances starts rows values track width) output i (pos 0) (omega (arith, count))

  -- a run of m + 1 cells from the one before it: without the strip of the cell that leaves, and with that of the one that comes
  pub along_slide : (m i : ℕ) → width ≡ suc m → i + 1 < runs (length track) width
      → let E = track_entry starts rows values track in whole_value left (i + 1) ≡ (whole_value left i -ℤ strip E i (i + 1) m) +ℤ strip E (i + 1 + m) (i + 1) m
  along_slide m i e h =
      let E = track_entry starts rows values track in
      along-run (i + 1) h ∙ ap (λ (k : ℕ). block_sum E k (i + 1)) e ∙ run_slide E (entries_symmetric starts rows values track) m i
      ∙ ap (λ (x : ℤ). (x -ℤ strip E i (i + 1) m) +ℤ strip E (i + 1 + m) (i + 1) m) (sym (along-run i (omega arith) ∙ ap (λ (k : ℕ). block_sum E k i) e))
