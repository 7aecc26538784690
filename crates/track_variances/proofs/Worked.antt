-- Small tracks over the result of F2: what the call replies and leaves, by computation, and what the theorems say of it.
-- Assumes nothing.
use Rattle.std.specs.Prelude.{ℕ, ◌+◌, ◌^◌, ◌≡◌, refl, List, [], ◌∷◌, ℤ, pos, negsuc, ◌+ℤ◌, ◌-ℤ◌}
use Rattle.std.proofs.Common.{arith}
use Rattle.lists.specs.Test.{any, any_in}
use Rattle.lists.specs.Place.{place_from}
use Rattle.lists.specs.Tabulate.{tabulate}
use Rattle.lists.specs.Overwrite.{overwrite}
use Rattle.refusal.specs.Steps.{refused, answered, first, verdict, after, each}
use Rattle.integers.specs.Matrix.{Matrix}
use Rattle.integers.specs.Inverse.{WholeInverse}
use Rattle.columns.specs.WholeFactor.{whole_value}
use Rattle.result.specs.Lookup.{column_faults, search_steps, entry_steps, entry_of, lookup_of, result_steps}
use Rattle.whole_pairs.specs.Entry.{entry_or_zero, absent_pair}
use Rattle.run_sums.specs.Runs.{run_sum, run_sums}
use Rattle.run_sums.specs.Slide.{strip}
use Rattle.whole_selection.specs.ReadBack.{whole_matrix}
use Rattle.whole_selection.specs.Worked.{f2_whole, left}
use Rattle.whole_selection.proofs.Worked.{f2_whole_exact, f2_whole_complete}
use Rattle.track_variances.specs.Track.{track_entry, width_steps, run_steps, track_steps, VariancesAlong}
use Rattle.track_variances.proofs.Promise.{along_found, along_later, along_slide}
use Rattle.track_variances.specs.Exact.{AlongAfter}
use Rattle.track_variances.proofs.Exact.{inverse-run}

-- F2's entries 5, -2, 1 with the rows 0 1 1 in two columns
abbrev F2-along : List ℤ → List ℕ → ℕ → List ℤ → List ℤ → Type 0
F2-along values track width output after-it = VariancesAlong (0 ∷ 2 ∷ 3 ∷ []) (0 ∷ 1 ∷ 1 ∷ []) values track width output (answered tt) after-it

abbrev F2-refused : List ℤ → List ℕ → ℕ → List ℤ → ℕ → Type 0
F2-refused values track width output k = VariancesAlong (0 ∷ 2 ∷ 3 ∷ []) (0 ∷ 1 ∷ 1 ∷ []) values track width output (refused k) output

abbrev f2_values : List ℤ
f2_values = pos 5 ∷ negsuc 1 ∷ pos 1 ∷ []

-- runs of two along 0, 1, 1, 0, into an output of four: 5 - 4 + 1, four times 1, 1 - 4 + 5, and a place as it was
two-along : F2-along f2_values (0 ∷ 1 ∷ 1 ∷ 0 ∷ []) 2 (pos 9 ∷ pos 9 ∷ pos 9 ∷ pos 9 ∷ []) (pos 2 ∷ pos 4 ∷ pos 2 ∷ pos 9 ∷ [])
unfolding any any_in place_from first after each tabulate overwrite run_sums column_faults search_steps entry_steps entry_of result_steps entry_or_zero absent_pair width_steps run_steps track_steps
two-along = record { replies = refl; output_after_lem = refl }

-- a cell listed twice counts twice
twice-along : F2-along f2_values (0 ∷ 0 ∷ []) 2 (pos 9 ∷ []) (pos 20 ∷ [])
unfolding any any_in place_from first after each tabulate overwrite run_sums column_faults search_steps entry_steps entry_of result_steps entry_or_zero absent_pair width_steps run_steps track_steps
twice-along = record { replies = refl; output_after_lem = refl }

-- 2^40 itself
largest-along : F2-along (pos (2 ^ 40) ∷ negsuc 1 ∷ pos 1 ∷ []) (0 ∷ []) 1 (pos 9 ∷ []) (pos (2 ^ 40) ∷ [])
unfolding any any_in place_from first after each tabulate overwrite run_sums column_faults search_steps entry_steps entry_of result_steps entry_or_zero absent_pair width_steps run_steps track_steps
largest-along = record { replies = refl; output_after_lem = refl }

-- ---- refusals, in their order; the output as it was
-- 22: widths of 0, above the track's length, and 2^32 + 1, before 8 of a cell outside
no-width : F2-refused f2_values (7 ∷ []) 0 [] 22
unfolding any any_in first after each column_faults result_steps width_steps run_steps track_steps
no-width = record { replies = refl; output_after_lem = refl }

wider_than_track : F2-refused f2_values (7 ∷ []) 2 [] 22
unfolding any any_in first after each column_faults result_steps width_steps run_steps track_steps
wider_than_track = record { replies = refl; output_after_lem = refl }

above_32_bits : F2-refused f2_values (0 ∷ []) (2 ^ 32 + 1) (pos 9 ∷ []) 22
unfolding any any_in first after each column_faults result_steps width_steps run_steps track_steps
above_32_bits = record { replies = refl; output_after_lem = refl }

-- 1,024 is the widest, however long the track
widest : verdict (width_steps 2000 1024) ≡ answered tt
unfolding first width_steps
widest = refl

too_wide : verdict (width_steps 2000 1025) ≡ refused 22
unfolding first width_steps
too_wide = refl

-- 8 of the last run before 20 of the first: a cell outside, and an entry of 2^40 + 1; both before 7
eight_first : F2-refused (pos (2 ^ 40 + 1) ∷ negsuc 1 ∷ pos 1 ∷ []) (0 ∷ 2 ∷ []) 1 [] 8
unfolding any any_in place_from first after each column_faults search_steps entry_steps entry_of result_steps entry_or_zero absent_pair width_steps run_steps track_steps
eight_first = record { replies = refl; output_after_lem = refl }

twenty_next : F2-refused (pos (2 ^ 40 + 1) ∷ negsuc 1 ∷ pos 1 ∷ []) (0 ∷ 1 ∷ []) 1 [] 20
unfolding any any_in place_from first after each column_faults search_steps entry_steps entry_of result_steps entry_or_zero absent_pair width_steps run_steps track_steps
twenty_next = record { replies = refl; output_after_lem = refl }

-- 7: room for one of two runs
short_output : F2-refused f2_values (0 ∷ 1 ∷ []) 1 (pos 9 ∷ []) 7
unfolding any any_in place_from first after each column_faults search_steps entry_steps entry_of result_steps entry_or_zero absent_pair width_steps run_steps track_steps
short_output = record { replies = refl; output_after_lem = refl }

-- a pair is needed only where its cells stand less than the width apart: (1, 0) is absent of two columns with a diagonal each
far_apart : VariancesAlong (0 ∷ 1 ∷ 2 ∷ []) (0 ∷ 1 ∷ []) (pos 3 ∷ pos 4 ∷ []) (0 ∷ 1 ∷ []) 1 (pos 9 ∷ pos 9 ∷ []) (answered tt) (pos 3 ∷ pos 4 ∷ [])
unfolding any any_in place_from first after each tabulate overwrite run_sums column_faults search_steps entry_steps entry_of result_steps entry_or_zero absent_pair width_steps run_steps track_steps
far_apart = record { replies = refl; output_after_lem = refl }

-- ---- the theorems, over the lists that F2's call in whole numbers left
f2-answered : AlongAfter f2_whole left.lists (0 ∷ 1 ∷ 1 ∷ []) 2 (pos 9 ∷ pos 9 ∷ pos 9 ∷ []) (pos 2 ∷ pos 4 ∷ pos 9 ∷ [])
unfolding any any_in place_from first after each tabulate overwrite run_sums column_faults search_steps entry_steps entry_of result_steps entry_or_zero absent_pair width_steps run_steps track_steps
f2-answered = record { replies = refl; output_after_lem = refl }

f2-run : (X : Matrix) → WholeInverse 2 (whole_matrix f2_whole) X → pos 4 ≡ run_sum X (0 ∷ 1 ∷ 1 ∷ []) 2 1
f2-run X is =
    inverse-run f2_whole left.lists X (f2_whole_exact X is) f2_whole_complete (0 ∷ 1 ∷ 1 ∷ []) 2 (pos 9 ∷ pos 9 ∷ pos 9 ∷ []) (pos 2 ∷ pos 4 ∷ pos 9 ∷ []) f2-answered 1 (omega arith)

-- the pair (1, 1) of the second run is found
f2_found : lookup_of (pos 0) (0 ∷ 2 ∷ 3 ∷ []) (0 ∷ 1 ∷ 1 ∷ 9 ∷ []) (pos 5 ∷ negsuc 1 ∷ pos 1 ∷ pos 7 ∷ []) 1 1 ≡ answered (pos 1)
unfolding any any_in place_from first column_faults search_steps entry_steps entry_of entry_or_zero
f2_found =
    along_found (0 ∷ 2 ∷ 3 ∷ []) (0 ∷ 1 ∷ 1 ∷ 9 ∷ []) (pos 5 ∷ negsuc 1 ∷ pos 1 ∷ pos 7 ∷ []) (0 ∷ 1 ∷ 1 ∷ []) 2 (pos 9 ∷ pos 9 ∷ pos 9 ∷ []) (pos 2 ∷ pos 4 ∷ pos 9 ∷ [])
    f2-answered 1 0 1 (omega arith) (omega arith) (omega arith)

f2_later : whole_value (pos 2 ∷ pos 4 ∷ pos 9 ∷ []) 2 ≡ whole_value (pos 9 ∷ pos 9 ∷ pos 9 ∷ []) 2
f2_later =
    along_later (0 ∷ 2 ∷ 3 ∷ []) (0 ∷ 1 ∷ 1 ∷ 9 ∷ []) (pos 5 ∷ negsuc 1 ∷ pos 1 ∷ pos 7 ∷ []) (0 ∷ 1 ∷ 1 ∷ []) 2 (pos 9 ∷ pos 9 ∷ pos 9 ∷ []) (pos 2 ∷ pos 4 ∷ pos 9 ∷ [])
    f2-answered 2 (omega arith)

-- 4 is 2 without 5 - 4 of the cell 0 that leaves, and with 1 + 2 of the cell 1 that comes
f2_slide : let E = track_entry (0 ∷ 2 ∷ 3 ∷ []) (0 ∷ 1 ∷ 1 ∷ 9 ∷ []) (pos 5 ∷ negsuc 1 ∷ pos 1 ∷ pos 7 ∷ []) (0 ∷ 1 ∷ 1 ∷ []) in pos 4 ≡ (pos 2 -ℤ strip E 0 1 1) +ℤ strip E 2 1 1
f2_slide =
    along_slide (0 ∷ 2 ∷ 3 ∷ []) (0 ∷ 1 ∷ 1 ∷ 9 ∷ []) (pos 5 ∷ negsuc 1 ∷ pos 1 ∷ pos 7 ∷ []) (0 ∷ 1 ∷ 1 ∷ []) 2 (pos 9 ∷ pos 9 ∷ pos 9 ∷ []) (pos 2 ∷ pos 4 ∷ pos 9 ∷ [])
    f2-answered 1 0 refl (omega arith)
