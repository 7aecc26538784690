-- F2 in whole numbers, and small factors with other diagonals or none: what the definitions give, by computation.
-- Assumes nothing.
use Rattle.std.specs.Prelude.{ℕ, ◌-◌, ◌^◌, List, [], ◌∷◌, ◌++◌, ◌≡◌, refl, ℤ, pos, negsuc}
use Rattle.lists.specs.Test.{any, any_in}
use Rattle.lists.specs.Select.{select, picked}
use Rattle.lists.specs.Sum.{sum_to}
use Rattle.refusal.specs.Steps.{Step, Passed, verdict, refused, first}
use Rattle.columns.specs.Columns.{rows_steps}
use Rattle.columns.specs.Kept.{factor_pairs}
use Rattle.columns.proofs.Factor.{rows_steps-sound}
use Rattle.columns.specs.WholeFactor.{whole_nonzero, whole_one, whole_pattern, whole_desc}
use Rattle.columns.specs.UnitDiagonals.{unit_steps, missing_steps, Units}
use Rattle.columns.proofs.UnitDiagonals.{units_sound}
use Rattle.columns.specs.Examples.{f2_starts, f2_rows}

-- F2 with l below the diagonal
abbrev f2-wholes : ℤ → List ℤ
f2-wholes l = pos 1 ∷ l ∷ pos 1 ∷ []

f2_whole_desc : whole_desc f2_starts f2_rows (f2-wholes (negsuc 1)) 0 ≡ record { row = 1; value = negsuc 1 } ∷ []
unfolding select picked
f2_whole_desc = refl

-- a stored 0 is dropped
f2_whole_zero : whole_pattern f2_starts f2_rows (f2-wholes (pos 0)) 0 ≡ []
unfolding select picked
f2_whole_zero = refl

-- and so is an entry above the diagonal, of any size
above_whole : factor_pairs (0 ∷ 1 ∷ 3 ∷ []) (0 ∷ 0 ∷ 1 ∷ []) (whole_nonzero (pos 1 ∷ negsuc (2 ^ 63 - 1) ∷ pos 1 ∷ [])) 2 ≡ 2
unfolding select picked factor_pairs sum_to
above_whole = refl

-- ---- 19, then 6
abbrev unit_checks : ℕ → List ℕ → List ℕ → List ℤ → List Step
unit_checks n starts rows values = unit_steps 19 n starts rows (whole_nonzero values) (whole_one values) ++ missing_steps n starts rows (whole_nonzero values)

f2_unit : Passed (unit_checks 2 f2_starts f2_rows (f2-wholes (pos 7)))
unfolding first unit_steps missing_steps any any_in
f2_unit = refl

diagonal_two : verdict (unit_checks 1 (0 ∷ 1 ∷ []) (0 ∷ []) (pos 2 ∷ [])) ≡ refused 19
unfolding first unit_steps missing_steps any any_in
diagonal_two = refl

diagonal_minus_one : verdict (unit_checks 1 (0 ∷ 1 ∷ []) (0 ∷ []) (negsuc 0 ∷ [])) ≡ refused 19
unfolding first unit_steps missing_steps any any_in
diagonal_minus_one = refl

-- a stored 0 is no kept diagonal
diagonal_whole_zero : verdict (unit_checks 1 (0 ∷ 1 ∷ []) (0 ∷ []) (pos 0 ∷ [])) ≡ refused 6
unfolding first unit_steps missing_steps any any_in
diagonal_whole_zero = refl

diagonal_missing : verdict (unit_checks 2 (0 ∷ 1 ∷ 2 ∷ []) (1 ∷ 1 ∷ []) (pos 1 ∷ pos 1 ∷ [])) ≡ refused 6
unfolding first unit_steps missing_steps any any_in
diagonal_missing = refl

-- column 0 has no diagonal, column 1 has 2: 19 of any column comes first
other_before_missing : verdict (unit_checks 2 (0 ∷ 1 ∷ 2 ∷ []) (1 ∷ 1 ∷ []) (pos 1 ∷ pos 2 ∷ [])) ≡ refused 19
unfolding first unit_steps missing_steps any any_in
other_before_missing = refl

-- ---- `units_sound` at F2
f2_sorted_passes : Passed (rows_steps 2 f2_starts f2_rows)
unfolding first rows_steps any any_in
f2_sorted_passes = refl

f2_other_passes : Passed (unit_steps 19 2 f2_starts f2_rows (whole_nonzero (f2-wholes (pos 7))) (whole_one (f2-wholes (pos 7))))
unfolding first unit_steps any any_in
f2_other_passes = refl

f2_missing_passes : Passed (missing_steps 2 f2_starts f2_rows (whole_nonzero (f2-wholes (pos 7))))
unfolding first missing_steps any any_in
f2_missing_passes = refl

f2_units : Units 2 f2_starts f2_rows (whole_nonzero (f2-wholes (pos 7))) (whole_one (f2-wholes (pos 7)))
f2_units =
    units_sound 2 f2_starts f2_rows (whole_nonzero (f2-wholes (pos 7))) (whole_one (f2-wholes (pos 7))) 19
    (rows_steps-sound 2 f2_starts f2_rows f2_sorted_passes) f2_other_passes f2_missing_passes
