-- Calls worked through by computation: factors without kept diagonals, their counts and values; pivots of 1; what is refused, in its order.
-- Assumes nothing.
use Rattle.std.specs.Prelude.{ℕ, ◌≡◌, refl, true, false, List, [], ◌∷◌, pos, negsuc, Float}
use Rattle.std.specs.Float.{nan, inf, fin}
use Rattle.std.specs.Float.Ieee.{of_bits, of_int, ne, eq, le, add, sub, mul, div, neg}
use Rattle.lists.specs.Test.{any, any_in}
use Rattle.lists.specs.Sum.{sum_to}
use Rattle.lists.specs.Select.{picked, select}
use Rattle.lists.specs.Cells.{cell_count}
use Rattle.refusal.specs.Steps.{Reply, refused, answered, first}
use Rattle.bits.specs.Bits.{bit_words}
use Rattle.pairs.specs.Pair.{pair_total}
use Rattle.pairs.specs.Scratch.{scratch_words}
use Rattle.columns.specs.Columns.{bound_steps, broken_steps, starts_steps, rows_steps, column_steps}
use Rattle.columns.specs.Kept.{f0}
use Rattle.columns.specs.Stored.{finite_steps, stored_steps}
use Rattle.columns.specs.Form.{pattern_pairs}
use Rattle.columns.specs.Pivots.{pivot_list_steps, pivot_steps}
use Rattle.columns.specs.UnitDiagonals.{unit_steps}
use Rattle.columns.specs.Examples.{f3_starts, f3_rows, f3_values}
use Rattle.closed_set.specs.ClosedSet.{reach, member}
use Rattle.closed_set.specs.Requests.{requested}
use Rattle.entries.specs.Entries.{pivot_table}
use Rattle.diagnostics.specs.declared.SelectedInverseDiagnostics.{SelectedInverseDiagnostics}
use Rattle.diagnostics.specs.declared.SelectedInverseStatus.TheVariants.{Complete, ClosureTooLarge}
use Rattle.diagnostics.specs.Diagnosis.{diagnosis}
use Rattle.selection.specs.Diagnosis.{diagnosis_of}
use Rattle.selection.specs.RequestSteps.{request_steps}
use Rattle.selection.specs.Selection.{Room, room, room_steps, default_limit, selected_answer, selected_table}
use Rattle.selection.specs.LdlCall.{LdlCall, ldl_call, ldl_selection, ldl_steps}

-- 1, 2 and 4
abbrev one : Float
one = fin false 1 (pos 0)

abbrev two : Float
two = fin false 1 (pos 1)

abbrev four : Float
four = fin false 1 (pos 2)

-- -0.0
abbrev minus_zero : Float
minus_zero = fin true 0 (pos 0)

-- what a call with lists of these lengths replies
abbrev reply_to : LdlCall → Room → Reply SelectedInverseDiagnostics
reply_to x lengths = first (ldl_steps x lengths) (selected_answer (ldl_selection x))

-- ---- a diagonal that is not kept is 1 and counts one kept pair
-- the entry 2 at (1, 0) alone, no diagonal kept; the request (0, 0)
abbrev bare : List Float → ℕ → LdlCall
bare pivots limit = ldl_call 2 (0 ∷ 1 ∷ 1 ∷ []) (1 ∷ []) (two ∷ []) pivots 2 (0 ∷ []) (0 ∷ []) limit

bare_counts : reply_to (bare (two ∷ four ∷ []) 3) (room 3 3 3 12) ≡ answered (diagnosis 1 3 3 3 Complete)
unfolding any any_in sum_to picked select cell_count of_int of_bits ne eq le first pair_total bit_words scratch_words bound_steps broken_steps starts_steps rows_steps column_steps
    finite_steps stored_steps request_steps pivot_list_steps unit_steps pivot_steps room_steps ldl_steps pattern_pairs reach member requested diagnosis_of
bare_counts = refl

bare-large : reply_to (bare (two ∷ four ∷ []) 2) (room 3 3 3 12) ≡ answered (diagnosis 1 3 3 2 ClosureTooLarge)
unfolding any any_in sum_to picked select cell_count of_int of_bits ne eq le first pair_total bit_words scratch_words bound_steps broken_steps starts_steps rows_steps column_steps
    finite_steps stored_steps request_steps pivot_list_steps unit_steps pivot_steps room_steps ldl_steps pattern_pairs reach member requested diagnosis_of
bare-large = refl

-- Z(1,1) = 1/4, Z(1,0) = -(2 * 1/4) = -1/2, Z(0,0) = 1/2 - (2 * -1/2) = 3/2
bare_values : (selected_table (ldl_selection (bare (two ∷ four ∷ []) 3)) 1 1 ≡ fin false 1 (negsuc 1))
    × (selected_table (ldl_selection (bare (two ∷ four ∷ []) 3)) 1 0 ≡ fin true 1 (negsuc 0))
    × (selected_table (ldl_selection (bare (two ∷ four ∷ []) 3)) 0 0 ≡ fin false 3 (negsuc 0))
unfolding picked select of_bits ne add sub mul div neg pivot_table
bare_values = (refl, refl, refl)

-- a stored diagonal 0.0 is dropped, so not kept: no refusal, and the same counts
dropped_counts : reply_to (ldl_call 2 (0 ∷ 2 ∷ 3 ∷ []) (0 ∷ 1 ∷ 1 ∷ []) (f0 ∷ two ∷ minus_zero ∷ []) (two ∷ four ∷ []) 2 (0 ∷ []) (0 ∷ []) 3) (room 3 3 3 12)
    ≡ answered (diagnosis 1 3 3 3 Complete)
unfolding any any_in sum_to picked select cell_count of_int of_bits ne eq le first pair_total bit_words scratch_words bound_steps broken_steps starts_steps rows_steps column_steps
    finite_steps stored_steps request_steps pivot_list_steps unit_steps pivot_steps room_steps ldl_steps pattern_pairs reach member requested diagnosis_of
dropped_counts = refl

-- nothing stored: columns without an entry are columns all the same
abbrev empty : LdlCall
empty = ldl_call 2 (0 ∷ 0 ∷ 0 ∷ []) [] [] (two ∷ four ∷ []) 2 (0 ∷ 1 ∷ []) (0 ∷ 1 ∷ []) 3

empty_counts : reply_to empty (room 3 3 3 12) ≡ answered (diagnosis 2 2 2 3 Complete)
unfolding any any_in sum_to picked select cell_count of_int of_bits ne eq le first pair_total bit_words scratch_words bound_steps broken_steps starts_steps rows_steps column_steps
    finite_steps stored_steps request_steps pivot_list_steps unit_steps pivot_steps room_steps ldl_steps pattern_pairs reach member requested diagnosis_of
empty_counts = refl

empty_values : (selected_table (ldl_selection empty) 0 0 ≡ fin false 1 (negsuc 0)) × (selected_table (ldl_selection empty) 1 1 ≡ fin false 1 (negsuc 1))
unfolding picked select of_bits ne add sub mul div neg pivot_table
empty_values = (refl, refl)

-- the default limit counts stored entries alone: none here, so the set of one pair is too large
default_large : reply_to (ldl_call 1 (0 ∷ 0 ∷ []) [] [] (one ∷ []) 1 (0 ∷ []) (0 ∷ []) (default_limit [])) (room 2 0 0 6) ≡ answered (diagnosis 1 1 1 0 ClosureTooLarge)
unfolding any any_in sum_to picked select cell_count of_int of_bits ne eq le first pair_total bit_words scratch_words bound_steps broken_steps starts_steps rows_steps column_steps
    finite_steps stored_steps request_steps pivot_list_steps unit_steps pivot_steps room_steps ldl_steps pattern_pairs reach member requested diagnosis_of
default_large = refl

-- ---- pivots of 1: the entries are those of F2, 5, -2 and 1; and of F3, where a sum of 0.0 gives -0.0
bare_exact : (selected_table (ldl_selection (bare (one ∷ one ∷ []) 3)) 0 0 ≡ fin false 5 (pos 0))
    × (selected_table (ldl_selection (bare (one ∷ one ∷ []) 3)) 1 0 ≡ fin true 1 (pos 1))
    × (selected_table (ldl_selection (bare (one ∷ one ∷ []) 3)) 1 1 ≡ one)
unfolding picked select of_bits ne add sub mul div neg pivot_table
bare_exact = (refl, refl, refl)

abbrev f3_pivots : LdlCall
f3_pivots = ldl_call 3 f3_starts f3_rows f3_values (one ∷ one ∷ one ∷ []) 3 (0 ∷ []) (0 ∷ []) 6

f3_zero : (selected_table (ldl_selection f3_pivots) 2 1 ≡ minus_zero) × (selected_table (ldl_selection f3_pivots) 0 0 ≡ fin false 7 (pos 1))
unfolding picked select of_bits of_int ne add sub mul div neg pivot_table
f3_zero = (refl, refl)

-- ---- refusals
-- diagonals 2 and 1 kept, and the entry 2 below; the request dimension and one index are given
abbrev kept : List Float → ℕ → ℕ → LdlCall
kept pivots dimension index = ldl_call 2 (0 ∷ 2 ∷ 3 ∷ []) (0 ∷ 1 ∷ 1 ∷ []) (two ∷ two ∷ one ∷ []) pivots dimension (index ∷ []) (0 ∷ []) 3

-- an entry that is not finite goes before pivots of another length, these before a NaN among them, that before the request's dimension, that before 5, 5 before
-- 23, 23 before 6; 7 is last
pub record LdlOrder : Type 0 where
  pub entry_first : reply_to (ldl_call 1 (0 ∷ 1 ∷ []) (0 ∷ []) (nan ∷ []) [] 5 [] [] 0) (room 0 0 0 0) ≡ refused 18
  pub length_next : reply_to (kept (nan ∷ []) 5 9) (room 0 0 0 0) ≡ refused 4
  pub finite_next : reply_to (kept (inf false ∷ one ∷ []) 5 9) (room 0 0 0 0) ≡ refused 18
  pub dimension_next : reply_to (kept (one ∷ one ∷ []) 5 9) (room 0 0 0 0) ≡ refused 4
  pub index_next : reply_to (kept (one ∷ one ∷ []) 2 9) (room 0 0 0 0) ≡ refused 5
  pub diagonal_next : reply_to (kept (minus_zero ∷ one ∷ []) 2 0) (room 0 0 0 0) ≡ refused 23
  pub pivot_next : reply_to (bare (one ∷ minus_zero ∷ []) 3) (room 0 0 0 0) ≡ refused 6
  pub room_last : reply_to (bare (one ∷ one ∷ []) 3) (room 3 3 3 11) ≡ refused 7

pub ldl_order : LdlOrder
unfolding any any_in sum_to picked select cell_count of_int of_bits ne eq le first pair_total bit_words scratch_words bound_steps broken_steps starts_steps rows_steps column_steps
    finite_steps stored_steps request_steps pivot_list_steps unit_steps pivot_steps room_steps ldl_steps pattern_pairs
ldl_order = record {
  entry_first = refl;
  length_next = refl;
  finite_next = refl;
  dimension_next = refl;
  index_next = refl;
  diagonal_next = refl;
  pivot_next = refl;
  room_last = refl;
}
