-- Small rows over the result of F2: what the call answers and refuses, by computation, and what the theorems say of it.
-- Assumes nothing.
use Rattle.std.specs.Prelude.{ℕ, zero, suc, ◌<◌, ◌≡◌, refl, List, [], ◌∷◌, ℤ, pos, negsuc, ◌≤ℤ◌}
use Rattle.std.proofs.Common.{arith}
use Rattle.std.specs.Int.Signed.{≤ℤ_refl}
use Rattle.lists.specs.Test.{any, any_in}
use Rattle.lists.specs.Place.{place_from}
use Rattle.refusal.specs.Steps.{Reply, refused, answered, first, verdict, each}
use Rattle.integers.specs.Matrix.{Matrix}
use Rattle.integers.specs.Inverse.{WholeInverse}
use Rattle.columns.specs.WholeFactor.{whole_value}
use Rattle.result.specs.Lookup.{column_faults, search_steps, entry_steps, entry_of, lookup_of, result_steps}
use Rattle.whole_pairs.specs.Entry.{entry_or_zero, absent_pair}
use Rattle.weight_bounds.specs.Bounds.{InRange, Scaled}
use Rattle.weight_bounds.specs.Wider.{Wider}
use Rattle.whole_selection.specs.ReadBack.{whole_matrix}
use Rattle.whole_selection.specs.Worked.{f2_whole, left}
use Rattle.whole_selection.proofs.Worked.{f2_whole_exact, f2_whole_complete}
use Rattle.weight_ranges.specs.Ranges.{range_row_steps, weight_steps, pair_steps, range_steps, range_bounds}
use Rattle.weight_ranges.specs.Promise.{row_variance}
use Rattle.weight_ranges.proofs.Promise.{answer_found, answer_wider}
use Rattle.weight_ranges.specs.Exact.{BoundsAfter}
use Rattle.weight_ranges.proofs.Exact.{inverse_holds, inverse_scaled, inverse-single}

-- what the call replies over a result with the rows 0 1 1 in two columns
abbrev reply_over : List ℤ → List ℕ → List ℤ → List ℤ → Reply (ℤ × ℤ)
reply_over values columns lows highs =
    first (range_steps (0 ∷ 2 ∷ 3 ∷ []) (0 ∷ 1 ∷ 1 ∷ []) values columns lows highs) (range_bounds (0 ∷ 2 ∷ 3 ∷ []) (0 ∷ 1 ∷ 1 ∷ []) values columns lows highs)

-- F2's entries 5, -2, 1
abbrev f2_values : List ℤ
f2_values = pos 5 ∷ negsuc 1 ∷ pos 1 ∷ []

-- ---- answers
-- weights from -1 to 2 and from 1 to 3: 0 - 12 - 12 + 1 and 20 + 6 + 6 + 9
f2-bounds : reply_over f2_values (0 ∷ 1 ∷ []) (negsuc 0 ∷ pos 1 ∷ []) (pos 2 ∷ pos 3 ∷ []) ≡ answered (negsuc 22, pos 41)
unfolding any any_in place_from first each column_faults search_steps entry_steps entry_of result_steps entry_or_zero absent_pair range_row_steps weight_steps pair_steps range_steps
f2-bounds = refl

-- the columns in the other order
f2-turned : reply_over f2_values (1 ∷ 0 ∷ []) (pos 1 ∷ negsuc 0 ∷ []) (pos 3 ∷ pos 2 ∷ []) ≡ answered (negsuc 22, pos 41)
unfolding any any_in place_from first each column_faults search_steps entry_steps entry_of result_steps entry_or_zero absent_pair range_row_steps weight_steps pair_steps range_steps
f2-turned = refl

-- no terms
no_terms : reply_over f2_values [] [] [] ≡ answered (pos 0, pos 0)
unfolding any any_in first each column_faults result_steps range_row_steps weight_steps pair_steps range_steps
no_terms = refl

-- 1,024 and 2 ^ 30 themselves
largest : reply_over (pos 1073741824 ∷ pos 0 ∷ pos 0 ∷ []) (0 ∷ []) (negsuc 1023 ∷ []) (pos 1024 ∷ []) ≡ answered (pos 0, pos 1125899906842624)
unfolding any any_in place_from first each column_faults search_steps entry_steps entry_of result_steps entry_or_zero absent_pair range_row_steps weight_steps pair_steps range_steps
largest = refl

-- ---- refusals, in their order
-- 9 before 21: a column twice, and a low end above its high end
repeated_column : reply_over f2_values (0 ∷ 0 ∷ []) (pos 3 ∷ pos 3 ∷ []) (pos 2 ∷ pos 2 ∷ []) ≡ refused 9
unfolding any any_in first each column_faults result_steps range_row_steps weight_steps pair_steps range_steps
repeated_column = refl

-- lists of unequal length, and a column outside
short_lows : reply_over f2_values (0 ∷ []) [] (pos 2 ∷ []) ≡ refused 9
unfolding any any_in first each column_faults result_steps range_row_steps weight_steps pair_steps range_steps
short_lows = refl

outside_column : reply_over f2_values (2 ∷ []) (pos 1 ∷ []) (pos 2 ∷ []) ≡ refused 9
unfolding any any_in first each column_faults result_steps range_row_steps weight_steps pair_steps range_steps
outside_column = refl

short_highs : reply_over f2_values (0 ∷ []) (pos 1 ∷ []) [] ≡ refused 9
unfolding any any_in first each column_faults result_steps range_row_steps weight_steps pair_steps range_steps
short_highs = refl

-- 21: over 64 terms, all from 0 to 0
most_terms : verdict (weight_steps 64 [] []) ≡ answered tt
unfolding any first weight_steps
most_terms = refl

more_terms : verdict (weight_steps 65 [] []) ≡ refused 21
unfolding any first weight_steps
more_terms = refl

-- low above high, a low end of -1,025, a high one of 1,025
low_above_high : reply_over f2_values (0 ∷ []) (pos 2 ∷ []) (pos 1 ∷ []) ≡ refused 21
unfolding any any_in first each column_faults result_steps range_row_steps weight_steps pair_steps range_steps
low_above_high = refl

large_weight : reply_over f2_values (0 ∷ []) (negsuc 1024 ∷ []) (pos 1 ∷ []) ≡ refused 21
unfolding any any_in first each column_faults result_steps range_row_steps weight_steps pair_steps range_steps
large_weight = refl

large_high_weight : reply_over f2_values (0 ∷ []) (pos 1 ∷ []) (pos 1025 ∷ []) ≡ refused 21
unfolding any any_in first each column_faults result_steps range_row_steps weight_steps pair_steps range_steps
large_high_weight = refl

-- 20: an entry of 2 ^ 30 + 1
large_entry : reply_over (pos 1073741825 ∷ negsuc 1 ∷ pos 1 ∷ []) (0 ∷ []) (pos 0 ∷ []) (pos 0 ∷ []) ≡ refused 20
unfolding any any_in place_from first each column_faults search_steps entry_steps entry_of result_steps entry_or_zero absent_pair range_row_steps weight_steps pair_steps range_steps
large_entry = refl

-- 8 of a later pair goes before 20 of the first: (1, 0) is absent, and (0, 0) too large; an entry above the diagonal is not its mirror
eight_first : first (range_steps (0 ∷ 1 ∷ 3 ∷ []) (0 ∷ 0 ∷ 1 ∷ []) (pos 1073741825 ∷ pos 4 ∷ pos 1 ∷ []) (0 ∷ 1 ∷ []) (pos 1 ∷ pos 1 ∷ []) (pos 1 ∷ pos 1 ∷ []))
    (range_bounds (0 ∷ 1 ∷ 3 ∷ []) (0 ∷ 0 ∷ 1 ∷ []) (pos 1073741825 ∷ pos 4 ∷ pos 1 ∷ []) (0 ∷ 1 ∷ []) (pos 1 ∷ pos 1 ∷ []) (pos 1 ∷ pos 1 ∷ [])) ≡ refused 8
unfolding any any_in place_from first each column_faults search_steps entry_steps entry_of result_steps entry_or_zero absent_pair range_row_steps weight_steps pair_steps range_steps
eight_first = refl

-- 3 of a column that no pair needs
unsorted_column : first (range_steps (0 ∷ 1 ∷ 3 ∷ []) (0 ∷ 1 ∷ 1 ∷ []) (pos 5 ∷ pos 1 ∷ pos 1 ∷ []) (0 ∷ 0 ∷ []) [] [])
    (range_bounds (0 ∷ 1 ∷ 3 ∷ []) (0 ∷ 1 ∷ 1 ∷ []) (pos 5 ∷ pos 1 ∷ pos 1 ∷ []) (0 ∷ 0 ∷ []) [] []) ≡ refused 3
unfolding any any_in first each column_faults result_steps range_row_steps weight_steps pair_steps range_steps
unsorted_column = refl

-- ---- the theorems, over the lists that F2's call in whole numbers left
f2-answered : BoundsAfter f2_whole left.lists (0 ∷ 1 ∷ []) (negsuc 0 ∷ pos 1 ∷ []) (pos 2 ∷ pos 3 ∷ []) (negsuc 22) (pos 41)
unfolding any any_in place_from first each column_faults search_steps entry_steps entry_of result_steps entry_or_zero absent_pair range_row_steps weight_steps pair_steps range_steps
f2-answered = refl

-- the pair (0, 1) is found
f2_found : lookup_of (pos 0) (0 ∷ 2 ∷ 3 ∷ []) (0 ∷ 1 ∷ 1 ∷ 9 ∷ []) (pos 5 ∷ negsuc 1 ∷ pos 1 ∷ pos 7 ∷ []) 0 1 ≡ answered (negsuc 1)
unfolding any any_in place_from first column_faults search_steps entry_steps entry_of entry_or_zero
f2_found =
    answer_found (0 ∷ 2 ∷ 3 ∷ []) (0 ∷ 1 ∷ 1 ∷ 9 ∷ []) (pos 5 ∷ negsuc 1 ∷ pos 1 ∷ pos 7 ∷ []) (0 ∷ 1 ∷ []) (negsuc 0 ∷ pos 1 ∷ []) (pos 2 ∷ pos 3 ∷ []) f2-answered 0 1
    (omega arith) (omega arith)

-- the weights 2 and 3
abbrev chosen : ℕ → ℤ
chosen zero = pos 2
chosen (suc a) = pos 3

chosen_in_range : (a : ℕ) → a < 2 → InRange (whole_value (negsuc 0 ∷ pos 1 ∷ []) a) (chosen a) (whole_value (pos 2 ∷ pos 3 ∷ []) a)
chosen_in_range zero l = record { from = record { le = tt }; to = record { le = tt } }
chosen_in_range (suc zero) l = record { from = record { le = tt }; to = record { le = tt } }
chosen_in_range (suc (suc a)) l = absurd (omega arith)

f2_holds : (X : Matrix) → WholeInverse 2 (whole_matrix f2_whole) X → InRange (negsuc 22) (row_variance (0 ∷ 1 ∷ []) chosen X) (pos 41)
f2_holds X is =
    inverse_holds f2_whole left.lists X (f2_whole_exact X is) f2_whole_complete (0 ∷ 1 ∷ []) (negsuc 0 ∷ pos 1 ∷ []) (pos 2 ∷ pos 3 ∷ []) f2-answered chosen chosen_in_range

-- the weights 1 / 2 and 3 / 2
abbrev halves : ℕ → ℤ
halves zero = pos 1
halves (suc a) = pos 3

halves_in_range : (a : ℕ) → a < 2 → Scaled 2 (whole_value (negsuc 0 ∷ pos 1 ∷ []) a) (halves a) (whole_value (pos 2 ∷ pos 3 ∷ []) a)
halves_in_range zero l = record { from = record { le = tt }; to = record { le = tt } }
halves_in_range (suc zero) l = record { from = record { le = tt }; to = record { le = tt } }
halves_in_range (suc (suc a)) l = absurd (omega arith)

f2_scaled : (X : Matrix) → WholeInverse 2 (whole_matrix f2_whole) X → Scaled 4 (negsuc 22) (row_variance (0 ∷ 1 ∷ []) halves X) (pos 41)
f2_scaled X is =
    inverse_scaled f2_whole left.lists X (f2_whole_exact X is) f2_whole_complete (0 ∷ 1 ∷ []) (negsuc 0 ∷ pos 1 ∷ []) (pos 2 ∷ pos 3 ∷ []) f2-answered 2 halves halves_in_range

-- equal ends 1 and 1: 5 - 4 + 1, as the operator's row in document 01
f2-ones : BoundsAfter f2_whole left.lists (0 ∷ 1 ∷ []) (pos 1 ∷ pos 1 ∷ []) (pos 1 ∷ pos 1 ∷ []) (pos 2) (pos 2)
unfolding any any_in place_from first each column_faults search_steps entry_steps entry_of result_steps entry_or_zero absent_pair range_row_steps weight_steps pair_steps range_steps
f2-ones = refl

f2-single : (X : Matrix) → WholeInverse 2 (whole_matrix f2_whole) X → let w = row_variance (0 ∷ 1 ∷ []) (whole_value (pos 1 ∷ pos 1 ∷ [])) X in (pos 2 ≡ w) × (pos 2 ≡ w)
f2-single X is =
    inverse-single f2_whole left.lists X (f2_whole_exact X is) f2_whole_complete (0 ∷ 1 ∷ []) (pos 1 ∷ pos 1 ∷ []) (pos 1 ∷ pos 1 ∷ []) f2-ones (λ a l. refl)

-- they lie in the wider ranges
ones_wider : Wider (whole_value (pos 1 ∷ pos 1 ∷ [])) (whole_value (pos 1 ∷ pos 1 ∷ [])) (whole_value (negsuc 0 ∷ pos 1 ∷ [])) (whole_value (pos 2 ∷ pos 3 ∷ [])) 2
ones_wider = record { ends = λ a l. ≤ℤ_refl _; below = below; above = above }
  where
    below : (a : ℕ) → a < 2 → whole_value (negsuc 0 ∷ pos 1 ∷ []) a ≤ℤ whole_value (pos 1 ∷ pos 1 ∷ []) a
    below zero l = record { le = tt }
    below (suc zero) l = record { le = tt }
    below (suc (suc a)) l = absurd (omega arith)

    above : (a : ℕ) → a < 2 → whole_value (pos 1 ∷ pos 1 ∷ []) a ≤ℤ whole_value (pos 2 ∷ pos 3 ∷ []) a
    above zero l = record { le = tt }
    above (suc zero) l = record { le = tt }
    above (suc (suc a)) l = absurd (omega arith)

f2_wider : (negsuc 22 ≤ℤ pos 2) × (pos 2 ≤ℤ pos 41)
f2_wider =
    answer_wider (0 ∷ 2 ∷ 3 ∷ []) (0 ∷ 1 ∷ 1 ∷ 9 ∷ []) (pos 5 ∷ negsuc 1 ∷ pos 1 ∷ pos 7 ∷ []) (0 ∷ 1 ∷ []) (pos 1 ∷ pos 1 ∷ []) (pos 1 ∷ pos 1 ∷ []) f2-ones
    (negsuc 0 ∷ pos 1 ∷ []) (pos 2 ∷ pos 3 ∷ []) f2-answered ones_wider
