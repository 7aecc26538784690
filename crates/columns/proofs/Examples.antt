-- Laws of specs/Examples.antt.
use Rattle.std.specs.Prelude.{ℕ, zero, suc, ◌<◌, true, false, [], ◌∷◌, ◌≡◌, refl, pos, negsuc}
use Rattle.std.proofs.Common.{arith}
use Rattle.std.specs.Float.{nan, inf, fin, binary64}
use Rattle.std.specs.Float.Ieee.{of_bits, of_int, ne, eq, le}
use Rattle.std.specs.Float.Ieee.Scale.{finite}
use Rattle.lists.specs.Test.{any, any_in}
use Rattle.lists.specs.Select.{select, picked}
use Rattle.lists.specs.Sum.{sum_to}
use Rattle.refusal.specs.Steps.{Passed, verdict, refused, first}
use Rattle.columns.specs.Columns.{value, factor_lists, bound_steps, broken_steps, starts_steps, rows_steps, column_steps}
use Rattle.columns.specs.Kept.{f0, nonzero, diag, desc, pattern, kept_pair, factor_pairs}
use Rattle.columns.specs.Stored.{finite_steps, stored_steps, factor_steps}
use Rattle.columns.specs.Diagonal.{diagonal_steps}
use Rattle.columns.specs.Form.{pattern_pairs, pattern_pair}
use Rattle.columns.specs.Pivots.{float_one, pivot_list_steps, pivot_steps}
use Rattle.columns.proofs.Pivots.{pivot_steps_passed}
use Rattle.columns.specs.UnitDiagonals.{unit_steps}
use Rattle.columns.specs.Operator.{operator_bound_steps, operator_steps}
use Rattle.columns.specs.Examples.{whole, f2_starts, f2_rows, f2_values, f3_starts, f3_rows, f3_values}

-- ---- kept entries
f2-pattern : pattern f2_starts f2_rows (nonzero f2_values) 0 ≡ 1 ∷ []
unfolding select picked of_int ne of_bits
f2-pattern = refl

f2_pairs : factor_pairs f2_starts f2_rows (nonzero f2_values) 2 ≡ 3
unfolding select picked of_int ne of_bits factor_pairs sum_to
f2_pairs = refl

f3-pattern : pattern f3_starts f3_rows (nonzero f3_values) 0 ≡ 1 ∷ 2 ∷ []
unfolding select picked of_int ne of_bits
f3-pattern = refl

f3-pattern_one : pattern f3_starts f3_rows (nonzero f3_values) 1 ≡ []
unfolding select picked of_int ne of_bits
f3-pattern_one = refl

f3-desc : desc f3_starts f3_rows f3_values 0 ≡ record { row = 1; value = whole 2 } ∷ record { row = 2; value = whole 3 } ∷ []
unfolding select picked of_int ne of_bits
f3-desc = refl

f3-diag : diag f3_starts f3_rows f3_values 2 ≡ whole 1
unfolding select picked of_int ne of_bits
f3-diag = refl

f3_pairs : factor_pairs f3_starts f3_rows (nonzero f3_values) 3 ≡ 5
unfolding select picked of_int ne of_bits factor_pairs sum_to
f3_pairs = refl

-- (2,0) is kept; (2,1) is not stored
f3_kept : kept_pair f3_starts f3_rows (nonzero f3_values) 2 0 ≡ true
unfolding kept_pair any any_in of_int ne of_bits
f3_kept = refl

f3_lacks : kept_pair f3_starts f3_rows (nonzero f3_values) 2 1 ≡ false
unfolding kept_pair any any_in of_int ne of_bits
f3_lacks = refl

-- a stored 0.0 and an entry above the diagonal are dropped
dropped_zero : kept_pair f2_starts f2_rows (nonzero (whole 1 ∷ f0 ∷ whole 1 ∷ [])) 1 0 ≡ false
unfolding kept_pair any any_in of_int ne of_bits
dropped_zero = refl

dropped_above : factor_pairs (0 ∷ 1 ∷ 3 ∷ []) (0 ∷ 0 ∷ 1 ∷ []) (nonzero f2_values) 2 ≡ 2
unfolding select picked of_int ne of_bits factor_pairs sum_to
dropped_above = refl

-- ---- steps 1, 2 and 3
f2_passes : Passed (factor_steps (factor_lists 2 f2_starts f2_rows f2_values))
unfolding first factor_steps bound_steps stored_steps column_steps starts_steps broken_steps rows_steps finite_steps any any_in of_int of_bits ne
f2_passes = refl

f3_passes : Passed (factor_steps (factor_lists 3 f3_starts f3_rows f3_values))
unfolding first factor_steps bound_steps stored_steps column_steps starts_steps broken_steps rows_steps finite_steps any any_in of_int of_bits ne
f3_passes = refl

-- n = 0
none_passes : Passed (factor_steps (factor_lists 0 (0 ∷ []) [] []))
unfolding first factor_steps bound_steps stored_steps column_steps starts_steps broken_steps rows_steps finite_steps any any_in of_int of_bits ne
none_passes = refl

-- n = 4,097, before all; 4,096 columns and 1,048,576 stored entries pass
large : verdict (factor_steps (factor_lists 4097 [] [] [])) ≡ refused 1
unfolding first factor_steps bound_steps
large = refl

largest : Passed (bound_steps 4096 1048576)
unfolding first bound_steps
largest = refl

starts_fall : verdict (factor_steps (factor_lists 2 (0 ∷ 4 ∷ 3 ∷ []) f2_rows f2_values)) ≡ refused 2
unfolding first factor_steps bound_steps stored_steps column_steps starts_steps broken_steps rows_steps any any_in
starts_fall = refl

starts_short : verdict (factor_steps (factor_lists 2 (0 ∷ 3 ∷ []) f2_rows f2_values)) ≡ refused 2
unfolding first factor_steps bound_steps stored_steps column_steps starts_steps broken_steps rows_steps any any_in
starts_short = refl

-- a value too few
values_short : verdict (factor_steps (factor_lists 2 f2_starts f2_rows (whole 1 ∷ whole 2 ∷ []))) ≡ refused 2
unfolding first factor_steps bound_steps stored_steps column_steps starts_steps broken_steps rows_steps any any_in
values_short = refl

rows_fall : verdict (factor_steps (factor_lists 2 f2_starts (1 ∷ 0 ∷ 1 ∷ []) f2_values)) ≡ refused 3
unfolding first factor_steps bound_steps stored_steps column_steps starts_steps broken_steps rows_steps any any_in
rows_fall = refl

rows_repeat : verdict (factor_steps (factor_lists 2 f2_starts (1 ∷ 1 ∷ 1 ∷ []) f2_values)) ≡ refused 3
unfolding first factor_steps bound_steps stored_steps column_steps starts_steps broken_steps rows_steps any any_in
rows_repeat = refl

rows_outside : verdict (factor_steps (factor_lists 2 f2_starts (0 ∷ 2 ∷ 1 ∷ []) f2_values)) ≡ refused 3
unfolding first factor_steps bound_steps stored_steps column_steps starts_steps broken_steps rows_steps any any_in
rows_outside = refl

-- ---- step 18
nan_diagonal : verdict (factor_steps (factor_lists 1 (0 ∷ 1 ∷ []) (0 ∷ []) (nan ∷ []))) ≡ refused 18
unfolding first factor_steps bound_steps stored_steps column_steps starts_steps broken_steps rows_steps finite_steps any any_in of_int of_bits ne
nan_diagonal = refl

infinity_below : verdict (factor_steps (factor_lists 2 f2_starts f2_rows (whole 1 ∷ inf true ∷ whole 1 ∷ []))) ≡ refused 18
unfolding first factor_steps bound_steps stored_steps column_steps starts_steps broken_steps rows_steps finite_steps any any_in of_int of_bits ne
infinity_below = refl

-- above the diagonal anything may stand
nan_above : Passed (factor_steps (factor_lists 2 (0 ∷ 1 ∷ 3 ∷ []) (0 ∷ 0 ∷ 1 ∷ []) (whole 1 ∷ nan ∷ whole 1 ∷ [])))
unfolding first factor_steps bound_steps stored_steps column_steps starts_steps broken_steps rows_steps finite_steps any any_in of_int of_bits ne
nan_above = refl

-- a row outside in a later column comes first
nan_rows_outside : verdict (factor_steps (factor_lists 2 f2_starts (0 ∷ 1 ∷ 2 ∷ []) (nan ∷ whole 2 ∷ whole 1 ∷ []))) ≡ refused 3
unfolding first factor_steps bound_steps stored_steps column_steps starts_steps broken_steps rows_steps any any_in
nan_rows_outside = refl

-- ---- step 6
f3_positive : Passed (diagonal_steps (factor_lists 3 f3_starts f3_rows f3_values))
unfolding first diagonal_steps any any_in of_int of_bits ne le
f3_positive = refl

diagonal_zero : verdict (diagonal_steps (factor_lists 1 (0 ∷ 1 ∷ []) (0 ∷ []) (f0 ∷ []))) ≡ refused 6
unfolding first diagonal_steps any any_in of_int of_bits ne le
diagonal_zero = refl

diagonal_negative : verdict (diagonal_steps (factor_lists 1 (0 ∷ 1 ∷ []) (0 ∷ []) (of_int binary64 (negsuc 0) ∷ []))) ≡ refused 6
unfolding first diagonal_steps any any_in of_int of_bits ne le
diagonal_negative = refl

diagonal_absent : verdict (diagonal_steps (factor_lists 2 (0 ∷ 1 ∷ 2 ∷ []) (1 ∷ 1 ∷ []) (whole 1 ∷ whole 1 ∷ []))) ≡ refused 6
unfolding first diagonal_steps any any_in of_int of_bits ne le
diagonal_absent = refl

diagonal_nan : Passed (diagonal_steps (factor_lists 1 (0 ∷ 1 ∷ []) (0 ∷ []) (nan ∷ [])))
unfolding first diagonal_steps any any_in of_int of_bits ne le
diagonal_nan = refl

-- ---- pivots: 4, then 18, then 6; 6 of -0.0 too, and not of the least number above 0.0
pivots_short : verdict (pivot_list_steps 2 (nan ∷ [])) ≡ refused 4
unfolding first pivot_list_steps
pivots_short = refl

pivots_long : verdict (pivot_list_steps 0 (whole 1 ∷ [])) ≡ refused 4
unfolding first pivot_list_steps
pivots_long = refl

pivots_nan : verdict (pivot_list_steps 2 (whole 1 ∷ nan ∷ [])) ≡ refused 18
unfolding first pivot_list_steps any of_int
pivots_nan = refl

pivots_infinite : verdict (pivot_list_steps 1 (inf true ∷ [])) ≡ refused 18
unfolding first pivot_list_steps any
pivots_infinite = refl

pivot_zero : verdict (pivot_steps 2 (whole 1 ∷ fin true 0 (pos 0) ∷ [])) ≡ refused 6
unfolding first pivot_steps any of_int of_bits le
pivot_zero = refl

pivot_least : Passed (pivot_steps 1 (fin false 1 (negsuc 1073) ∷ []))
unfolding first pivot_steps any of_bits le
pivot_least = refl

-- `pivot_steps_passed`: one pivot, 1
pivot_passes : Passed (pivot_list_steps 1 (whole 1 ∷ [])) × Passed (pivot_steps 1 (whole 1 ∷ []))
unfolding of_int of_bits le
pivot_passes = pivot_steps_passed 1 (whole 1 ∷ []) (record {
  long = refl;
  finite_pivot = λ c h. one c h;
  positive = λ c h. above c h;
})
  where
    one : (c : ℕ) → c < 1 → finite (value (whole 1 ∷ []) c) ≡ true
    one zero h = refl
    one (suc c) h = absurd (omega (arith, h))

    above : (c : ℕ) → c < 1 → le (value (whole 1 ∷ []) c) f0 ≡ false
    above zero h = refl
    above (suc c) h = absurd (omega (arith, h))

-- ---- 23: a kept diagonal other than 1; a dropped one and a missing one are none
pivot_diagonal : verdict (unit_steps 23 2 f2_starts f2_rows (nonzero (whole 1 ∷ whole 2 ∷ whole 3 ∷ [])) (float_one (whole 1 ∷ whole 2 ∷ whole 3 ∷ []))) ≡ refused 23
unfolding first unit_steps any any_in of_int of_bits ne eq
pivot_diagonal = refl

pivot_diagonal_dropped : Passed (unit_steps 23 2 f2_starts f2_rows (nonzero (f0 ∷ whole 2 ∷ whole 1 ∷ [])) (float_one (f0 ∷ whole 2 ∷ whole 1 ∷ [])))
unfolding first unit_steps any any_in of_int of_bits ne eq
pivot_diagonal_dropped = refl

-- ---- the pattern's pairs: diagonals kept or not, and what is kept below
pattern_pairs_lem : (pattern_pair (0 ∷ 1 ∷ 1 ∷ []) (1 ∷ []) (nonzero (whole 2 ∷ [])) 0 0 ≡ true)
    × (pattern_pair (0 ∷ 1 ∷ 1 ∷ []) (1 ∷ []) (nonzero (whole 2 ∷ [])) 1 0 ≡ true)
    × (pattern_pair (0 ∷ 1 ∷ 1 ∷ []) (1 ∷ []) (nonzero (f0 ∷ [])) 1 0 ≡ false)
    × (pattern_pairs 2 (pattern (0 ∷ 1 ∷ 1 ∷ []) (1 ∷ []) (nonzero (whole 2 ∷ []))) ≡ 3)
    × (pattern_pairs 2 (pattern (0 ∷ 1 ∷ 1 ∷ []) (1 ∷ []) (nonzero (f0 ∷ []))) ≡ 2)
unfolding kept_pair pattern_pairs sum_to select picked any any_in of_int of_bits ne
pattern_pairs_lem = (refl, refl, refl, refl, refl)

-- ---- step 9: one row, 1 at 0 and 1 at 1
operator_passes : Passed (operator_steps 2 (0 ∷ 2 ∷ []) (0 ∷ 1 ∷ []) 2)
unfolding first operator_steps broken_steps any
operator_passes = refl

operator_empty : verdict (operator_steps 2 [] [] 0) ≡ refused 9
unfolding first operator_steps broken_steps any
operator_empty = refl

operator_falls : verdict (operator_steps 2 (0 ∷ 3 ∷ 2 ∷ []) (0 ∷ 1 ∷ []) 2) ≡ refused 9
unfolding first operator_steps broken_steps any
operator_falls = refl

operator_outside : verdict (operator_steps 2 (0 ∷ 2 ∷ []) (0 ∷ 2 ∷ []) 2) ≡ refused 9
unfolding first operator_steps broken_steps any
operator_outside = refl

operator_small : Passed (operator_bound_steps [] [])
unfolding first bound_steps
operator_small = refl
