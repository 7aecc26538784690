-- Laws of specs/Examples.antt.
use Rattle.std.specs.Prelude.{[], ◌∷◌, ◌≡◌, refl, negsuc}
use Rattle.std.specs.Float.{binary64}
use Rattle.std.specs.Float.Ieee.{of_int}
use Rattle.lists.specs.Test.{any, any_in}
use Rattle.lists.specs.Place.{place_from}
use Rattle.lists.specs.Tabulate.{tabulate}
use Rattle.refusal.specs.Steps.{verdict, refused, answered, first, each}
use Rattle.columns.specs.Examples.{whole, f2_starts, f2_rows}
use Rattle.columns.specs.Kept.{f0}
use Rattle.result.specs.Digits.{digits_in, binary_digits}
use Rattle.result.specs.Looks.{looks_in, looks}
use Rattle.result.specs.Counted.{entry_looks, lookup_looks}
use Rattle.result.specs.Halving.{halving_in, candidate, standing, halved_place, column_within, place_within, lookup_place_within, lookup_within}
use Rattle.result.specs.Lookup.{column_faults, search_steps, entry_steps, entry_place, lookup_place, entry_of, lookup, result_steps, diag_steps, diagonals, coverage}
use Rattle.result.specs.Examples.{f2_result_values}

f2_first : lookup f2_starts f2_rows f2_result_values 0 0 ≡ answered (whole 5)
unfolding entry_of entry_steps search_steps column_faults first any any_in place_from
f2_first = refl

f2_below : lookup f2_starts f2_rows f2_result_values 1 0 ≡ answered (of_int binary64 (negsuc 1))
unfolding entry_of entry_steps search_steps column_faults first any any_in place_from
f2_below = refl

f2-exchanged : lookup f2_starts f2_rows f2_result_values 0 1 ≡ answered (of_int binary64 (negsuc 1))
unfolding entry_of entry_steps search_steps column_faults first any any_in place_from
f2-exchanged = refl

f2-outside : lookup f2_starts f2_rows f2_result_values 2 0 ≡ refused 8
unfolding entry_of entry_steps search_steps column_faults first any any_in place_from
f2-outside = refl

f2_diagonals : diagonals f2_starts f2_rows f2_result_values ≡ whole 5 ∷ whole 1 ∷ []
unfolding diagonals tabulate entry_of entry_steps search_steps column_faults first any any_in place_from
f2_diagonals = refl

-- the places in the values, however many they are
f2_place : lookup_place f2_starts f2_rows 3 0 1 ≡ answered 1
unfolding entry_place entry_steps search_steps column_faults first any any_in place_from
f2_place = refl

f2_short_place : lookup_place f2_starts f2_rows 2 1 1 ≡ refused 2
unfolding entry_place entry_steps search_steps column_faults first any any_in place_from
f2_short_place = refl

-- only (1, 1) is covered
uncovered : lookup (0 ∷ 0 ∷ 1 ∷ []) (1 ∷ []) (whole 1 ∷ []) 0 0 ≡ refused 8
unfolding entry_of entry_steps search_steps column_faults first any any_in place_from
uncovered = refl

uncovered_diagonals : diagonals (0 ∷ 0 ∷ 1 ∷ []) (1 ∷ []) (whole 1 ∷ []) ≡ f0 ∷ whole 1 ∷ []
unfolding diagonals tabulate entry_of entry_steps search_steps column_faults first any any_in place_from
uncovered_diagonals = refl

-- its marks: the first diagonal is not covered; a stored 0.0 is covered
uncovered_marks : coverage (0 ∷ 0 ∷ 1 ∷ []) (1 ∷ []) (whole 1 ∷ []) ≡ 0 ∷ 1 ∷ []
unfolding coverage tabulate entry_of entry_steps search_steps column_faults first any any_in place_from
uncovered_marks = refl

zero_marked : coverage (0 ∷ 1 ∷ []) (0 ∷ []) (f0 ∷ []) ≡ 1 ∷ []
unfolding coverage tabulate entry_of entry_steps search_steps column_faults first any any_in place_from
zero_marked = refl

-- no starts
no_starts_lem : lookup [] [] [] 0 0 ≡ refused 2
unfolding entry_of entry_steps search_steps first
no_starts_lem = refl

-- one start: no column, so every index is outside
no_columns : lookup (7 ∷ []) [] [] 0 0 ≡ refused 8
unfolding entry_of entry_steps search_steps first
no_columns = refl

falling : lookup (2 ∷ 0 ∷ []) (0 ∷ []) (whole 1 ∷ []) 0 0 ≡ refused 2
unfolding entry_of entry_steps search_steps column_faults first any any_in place_from
falling = refl

past_rows : lookup (0 ∷ 2 ∷ []) (0 ∷ []) (whole 1 ∷ whole 1 ∷ []) 0 0 ≡ refused 2
unfolding entry_of entry_steps search_steps column_faults first any any_in place_from
past_rows = refl

past_values : lookup (0 ∷ 2 ∷ []) (0 ∷ 1 ∷ []) (whole 1 ∷ []) 0 0 ≡ refused 2
unfolding entry_of entry_steps search_steps column_faults first any any_in place_from
past_values = refl

unsorted_rows : lookup (0 ∷ 2 ∷ []) (0 ∷ 0 ∷ []) (whole 1 ∷ whole 2 ∷ []) 0 0 ≡ refused 3
unfolding entry_of entry_steps search_steps column_faults first any any_in place_from
unsorted_rows = refl

-- a column outside comes before the columns' faults, a row outside after them
column_outside : lookup (2 ∷ 0 ∷ []) (0 ∷ []) (whole 1 ∷ []) 1 1 ≡ refused 8
unfolding entry_of entry_steps search_steps column_faults first any any_in place_from
column_outside = refl

row_outside : lookup (2 ∷ 0 ∷ []) (0 ∷ []) (whole 1 ∷ []) 1 0 ≡ refused 2
unfolding entry_of entry_steps search_steps column_faults first any any_in place_from
row_outside = refl

-- a broken column before a short output, whatever the columns before it
broken_second : verdict (diag_steps (0 ∷ 1 ∷ 0 ∷ []) (0 ∷ []) 1 0 0) ≡ refused 2
unfolding diag_steps result_steps each column_faults first any any_in
broken_second = refl

short_output : verdict (diag_steps f2_starts f2_rows 3 1 2) ≡ refused 7
unfolding diag_steps result_steps each column_faults first any any_in
short_output = refl

-- an output of marks too short
short_marks : verdict (diag_steps f2_starts f2_rows 3 2 1) ≡ refused 7
unfolding diag_steps result_steps each column_faults first any any_in
short_marks = refl

-- ---- places looked at
-- each call looks at the first place of its own part
absent_between : looks (1 ∷ 3 ∷ 5 ∷ []) 4 ≡ 4
unfolding looks_in
absent_between = refl

-- the only row is looked at twice
absent_below : looks (1 ∷ []) 0 ≡ 2
unfolding looks_in
absent_below = refl

-- what lies below the middle has the first place in it
absent_in_two : looks (1 ∷ 3 ∷ []) 2 ≡ 4
unfolding looks_in
absent_in_two = refl

-- a row below the first ends nothing
absent_below_two : looks (1 ∷ 3 ∷ []) 0 ≡ 4
unfolding looks_in
absent_below_two = refl

at_middle : looks (1 ∷ 3 ∷ []) 3 ≡ 2
unfolding looks_in
at_middle = refl

no_rows : looks [] 3 ≡ 0
unfolding looks_in
no_rows = refl

digits_of_five : binary_digits 5 ≡ 3
unfolding digits_in
digits_of_five = refl

-- a lookup that refuses before it searches looks at no place
outside_unlooked : lookup_looks f2_starts f2_rows 3 2 0 ≡ 0
unfolding entry_looks search_steps column_faults first any any_in
outside_unlooked = refl

f2_below_looks : lookup_looks f2_starts f2_rows 3 0 1 ≡ 2
unfolding entry_looks search_steps column_faults first any any_in looks_in
f2_below_looks = refl

f2_diagonal_looks : lookup_looks f2_starts f2_rows 3 1 1 ≡ 1
unfolding entry_looks search_steps column_faults first any any_in looks_in
f2_diagonal_looks = refl

-- ---- the lookup within its lists
-- in rows that do not ascend a row can be passed by, and another be met
passed_by : halved_place (1 ∷ 8 ∷ 3 ∷ 9 ∷ []) 8 0 4 ≡ refused 8
unfolding halved_place candidate standing halving_in
passed_by = refl

met : halved_place (1 ∷ 8 ∷ 3 ∷ 9 ∷ []) 3 0 4 ≡ answered 2
unfolding halved_place candidate standing halving_in
met = refl

-- a run: no halving
run-met : halved_place (4 ∷ 5 ∷ 6 ∷ 7 ∷ []) 6 0 4 ≡ answered 2
unfolding halved_place candidate standing
run-met = refl

-- ends that look like a run's
run_missed : halved_place (4 ∷ 9 ∷ 6 ∷ 7 ∷ []) 5 0 4 ≡ refused 8
unfolding halved_place candidate standing
run_missed = refl

within_place_outside : lookup_place_within f2_starts f2_rows 3 0 2 ≡ refused 8
unfolding place_within column_within halved_place
within_place_outside = refl

-- equal rows that the lookup refuses with 3
within_unsorted : lookup_within (0 ∷ 2 ∷ []) (0 ∷ 0 ∷ []) (whole 1 ∷ whole 2 ∷ []) 0 0 ≡ answered (whole 1)
unfolding place_within column_within halved_place
within_unsorted = refl
