-- Laws of specs/Worked.antt.
use Rattle.std.specs.Prelude.{◌+◌, ◌≤◌, ◌^◌, ◌≡◌, refl, true, false, List, [], ◌∷◌, pos, negsuc, Float, Ok, Err}
use Rattle.std.specs.Float.{fin}
use Rattle.std.specs.Float.Ieee.{of_bits, of_int, ne, le, add, sub, mul, div, neg}
use Rattle.lists.specs.Test.{any, any_in}
use Rattle.lists.specs.Sum.{sum_to}
use Rattle.lists.specs.Select.{select, picked}
use Rattle.lists.specs.Tabulate.{tabulate}
use Rattle.lists.specs.Overwrite.{overwrite, filled}
use Rattle.lists.specs.Place.{place_from}
use Rattle.lists.specs.Cells.{cells, cell_count}
use Rattle.refusal.specs.Steps.{refused, answered, first, after, Passed}
use Rattle.refusal.specs.declared.Refusal.TheVariants.{NumberTooLarge}
use Rattle.bits.specs.Bits.{bit_words}
use Rattle.integers.specs.Matrix.{Matrix}
use Rattle.integers.specs.Inverse.{WholeInverse}
use Rattle.pairs.specs.Pair.{pair_total}
use Rattle.pairs.specs.Scratch.{scratch_words}
use Rattle.columns.specs.Columns.{bound_steps, broken_steps, starts_steps, rows_steps, column_steps}
use Rattle.columns.specs.Kept.{factor_pairs}
use Rattle.columns.specs.Stored.{finite_steps, stored_steps}
use Rattle.columns.specs.Diagonal.{diagonal_steps}
use Rattle.columns.specs.UnitDiagonals.{unit_steps, missing_steps}
use Rattle.columns.specs.Examples.{f2_starts, f2_rows}
use Rattle.closed_set.specs.ClosedSet.{reach, member}
use Rattle.closed_set.specs.Requests.{requested}
use Rattle.exact.specs.Exceeds.{set_exceeds}
use Rattle.entries.specs.Entries.{float_table}
use Rattle.entries.specs.WholeTable.{whole_table}
use Rattle.result.specs.Lookup.{column_faults, search_steps, entry_steps, entry_of}
use Rattle.diagnostics.specs.declared.SelectedInverseDiagnostics.{SelectedInverseDiagnostics}
use Rattle.diagnostics.specs.declared.SelectedInverseStatus.TheVariants.{Complete}
use Rattle.diagnostics.specs.Diagnosis.{diagnosis}
use Rattle.selection.specs.RequestSteps.{request_steps}
use Rattle.selection.specs.Diagnosis.{diagnosis_of}
use Rattle.selection.specs.Selection.{Lent, lists, room_of, room_steps, filling_of, ResultLists}
use Rattle.selection.specs.Call.{selection_of, selected_steps}
use Rattle.whole_selection.specs.Call.{WholeCall, WholeLent, whole_call, whole_room_of, whole_size, whole_answer, work_steps, check_steps, exceed_steps, WholeEntries}
use Rattle.whole_selection.specs.ReadBack.{whole_found, whole_matrix, Within53, ReadsWhole}
use Rattle.whole_selection.proofs.ReadBack.{whole_reply_lem, reads_found, twenty_told, told_twenty}
use Rattle.whole_selection.specs.Agree.{float_call}
use Rattle.whole_selection.specs.Engines.{Agrees, converted}
use Rattle.whole_selection.proofs.Engines.{engines_complete}
use Rattle.whole_selection.specs.Worked.{f2_whole, words, before, left}
use Rattle.refusal.specs.Refusal.{reply_of}

pub f2_whole_entries : WholeEntries f2_whole before (Ok (whole_answer f2_whole)) left
unfolding any any_in sum_to picked select cells cell_count tabulate overwrite filled factor_pairs reach member requested diagnosis_of
    first after pair_total bit_words scratch_words bound_steps broken_steps starts_steps rows_steps column_steps request_steps unit_steps missing_steps room_steps work_steps
    check_steps exceed_steps set_exceeds whole_table
f2_whole_entries = record {
  replies = refl;
  lists_are = record { starts_are = refl; rows_are = refl; values_are = refl; scratch_is = refl };
  work_is = refl;
}

-- what reads back: the inverse's entries, also at (0, 1), and 8 outside
f2_found : whole_found f2_whole left.lists 0 1 ≡ answered (negsuc 1)
unfolding any any_in place_from first column_faults search_steps entry_steps entry_of
f2_found = refl

f2-outside : whole_found f2_whole left.lists 2 0 ≡ refused 8
unfolding any any_in place_from first column_faults search_steps entry_steps entry_of
f2-outside = refl

-- ---- `whole_reply_lem`: a Complete answer is exact
pub f2_whole_exact : (X : Matrix) → WholeInverse 2 (whole_matrix f2_whole) X → ReadsWhole f2_whole left.lists X
f2_whole_exact X is = (whole_reply_lem f2_whole before f2_whole_entries refl X is).1

pub f2_whole_complete : (whole_answer f2_whole).status ≡ Complete
unfolding any sum_to picked select cell_count reach member requested diagnosis_of diagnosis
f2_whole_complete = refl

-- ---- `reads_found`: what the lookup finds is X's entry
f2_read : (X : Matrix) → WholeInverse 2 (whole_matrix f2_whole) X → negsuc 1 ≡ X 0 1
f2_read X is = reads_found f2_whole left.lists X (f2_whole_exact X is) f2_whole_complete 0 1 f2_found

-- ---- `engines_complete`: selected entries of the same factor in f64, in lists of 0
abbrev floats_before : Lent
floats_before = lists (0 ∷ 0 ∷ 0 ∷ []) (0 ∷ 0 ∷ 0 ∷ []) (fin false 0 (pos 0) ∷ fin false 0 (pos 0) ∷ fin false 0 (pos 0) ∷ []) (words 0)

abbrev floats_left : Lent
floats_left = lists (0 ∷ 2 ∷ 3 ∷ []) (0 ∷ 1 ∷ 1 ∷ []) (fin false 5 (pos 0) ∷ fin true 1 (pos 1) ∷ fin false 1 (pos 0) ∷ []) (words 0)

abbrev f2-converted : List Float
f2-converted = converted f2_whole.factor.values

f2_room : Passed (room_steps 2 3 (room_of floats_before))
unfolding first pair_total bit_words scratch_words room_steps
f2_room = refl

f2-floats : ResultLists (selected_steps (float_call f2_whole f2-converted) (room_of floats_before)) (filling_of (selection_of (float_call f2_whole f2-converted))) floats_before floats_left
unfolding any any_in sum_to picked select cells cell_count tabulate overwrite filled factor_pairs reach member requested diagnosis_of
    of_int of_bits ne le add sub mul div neg float_table
    first after pair_total bit_words scratch_words bound_steps broken_steps starts_steps rows_steps column_steps finite_steps stored_steps request_steps diagonal_steps room_steps selected_steps
f2-floats = record { starts_are = refl; rows_are = refl; values_are = refl; scratch_is = refl }

f2-agrees : Agrees f2_whole left.lists f2-converted floats_before floats_left
f2-agrees = engines_complete f2_whole before f2_whole_entries refl f2_whole_complete floats_before f2_room f2-floats

-- ---- `told_twenty`: F2 with 2 ^ 53 + 1 below its diagonal and the request (1, 1)
abbrev large : WholeCall
large = whole_call 2 f2_starts f2_rows (pos 1 ∷ pos (2 ^ 53 + 1) ∷ pos 1 ∷ []) 2 (1 ∷ []) (1 ∷ []) 3

-- the result lists stay; scratch and work are cleared
abbrev large_left : WholeLent
large_left = record { lists = record { result_starts = before.lists.result_starts; result_rows = before.lists.result_rows; result_values = before.lists.result_values; scratch = words 0 }; work = left.work }

large_entries : WholeEntries large before (Err NumberTooLarge) large_left
unfolding any any_in sum_to picked select cells cell_count tabulate overwrite filled factor_pairs reach member requested diagnosis_of
    first after pair_total bit_words scratch_words bound_steps broken_steps starts_steps rows_steps column_steps request_steps unit_steps missing_steps room_steps work_steps
    check_steps exceed_steps set_exceeds whole_table
large_entries = record {
  replies = refl;
  lists_are = record { starts_are = refl; rows_are = refl; values_are = refl; scratch_is = refl };
  work_is = refl;
}

large-checked : Passed (check_steps large (whole_room_of before))
unfolding any any_in first pair_total bit_words scratch_words bound_steps broken_steps starts_steps rows_steps column_steps request_steps unit_steps missing_steps room_steps work_steps
    check_steps
large-checked = refl

large-told : (whole_size large ≤ 3) × (Within53 large → ⊥)
large-told = told_twenty large before large_entries large-checked refl

-- ---- `twenty_told`: the other way
large-refused : reply_of {A = SelectedInverseDiagnostics} (Err NumberTooLarge) ≡ refused 20
large-refused = twenty_told large before large_entries large-checked large-told.0 large-told.1
