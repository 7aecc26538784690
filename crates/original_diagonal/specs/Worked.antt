-- F2 of document 01 with its two cells exchanged: the diagonal 5, 1 in factor order is the output 1, 5, exactly. The factor with the rows 2 0 and 6 4 likewise:
-- its diagonal 13 / 16, 1 / 16 is the output 1 / 16, 13 / 16.
-- Assumes nothing.
use Rattle.std.specs.Prelude.{◌≡◌, refl, List, [], ◌∷◌, length, get_or, pos, ◌*ℤ◌, Float, Ok, Result}
use Rattle.std.proofs.Common.{lit<, lit≤}
use Rattle.std.specs.Float.{nan}
use Rattle.std.specs.Float.Ieee.{of_bits, of_int, ne, le, add, sub, mul, div, neg}
use Rattle.lists.specs.Test.{any, any_in}
use Rattle.lists.specs.Select.{select, picked}
use Rattle.lists.specs.Sum.{sum_to}
use Rattle.lists.specs.Cells.{cells, cell_count}
use Rattle.lists.specs.Tabulate.{tabulate}
use Rattle.lists.specs.Overwrite.{overwrite, filled}
use Rattle.refusal.specs.Steps.{refused, answered, first, after, each, Passed}
use Rattle.bits.specs.Bits.{bit_words}
use Rattle.pairs.specs.Pair.{pair_total}
use Rattle.pairs.specs.Scratch.{scratch_words}
use Rattle.columns.specs.Columns.{bound_steps, broken_steps, starts_steps, rows_steps, column_steps}
use Rattle.columns.specs.Stored.{finite_steps, stored_steps, factor_steps}
use Rattle.columns.specs.Diagonal.{diagonal_steps}
use Rattle.columns.specs.Kept.{factor_pairs}
use Rattle.columns.specs.Form.{cholesky}
use Rattle.columns.specs.Examples.{whole, f2_starts, f2_rows, f2_values}
use Rattle.exact.specs.Multiple.{Multiple, Whole}
use Rattle.exact.specs.Examples.{f2_entries, f2_matrix, sixteenths-diag, sixteenths, sixteenths-z, sixteenths_matrix}
use Rattle.exact.proofs.Examples.{f2-inverse, sixteenths-inverse}
use Rattle.closed_set.specs.ClosedSet.{reach, member}
use Rattle.entries.specs.Entries.{float_table}
use Rattle.factor_order.specs.Permutation.{reordered}
use Rattle.diagnostics.specs.Diagnosis.{diagnosis}
use Rattle.diagnostics.specs.declared.SelectedInverseStatus.TheVariants.{Complete}
use Rattle.selection.specs.Diagnosis.{diagnosis_of}
use Rattle.selection.specs.Selection.{Lent, room_of, room_steps, selected_size, selected_answer, filling_of}
use Rattle.selection.proofs.Selection.{lists_passed}
use Rattle.exact_entries.specs.DyadicEntries.{DyadicCall}
use Rattle.exact_entries.specs.ExactEntries.{ExactCall}
use Rattle.exact_entries.specs.Worked.{f2_lent, f2_lists}
use Rattle.exact_entries.proofs.Worked.{f2_diagonals, f2_exact}
use Rattle.exact_entries.specs.DyadicWorked.{sixteenths_values, sixteenths_lists}
use Rattle.request_marks.specs.DiagonalMarks.{diagonal_pairs}
use Rattle.original_diagonal_with_limit.specs.Original.{original_steps as limited_steps}
use Rattle.original_diagonal_with_limit.specs.Worked.{exchanged-output, arrow_starts, arrow_rows, arrow_values, nines, arrow_lent}
use Rattle.original_diagonal_with_limit.specs.Worked as general
use Rattle.original_diagonal.specs.Original.{OriginalCall, original_call, original_selection, original_steps, OriginalDiagonal, original_accepted}
use Rattle.original_diagonal.specs.ExactDiagonal.{OriginalExact, OriginalMultiples, within_reply, beyond-reply, original_exact_reply, original_dyadic_reply}
use Rattle.refusal.specs.declared.Refusal.{Refusal}
use Rattle.diagnostics.specs.declared.SelectedInverseDiagnostics.{SelectedInverseDiagnostics}
use Rattle.refusal.specs.Refusal.{reply_of}

abbrev f2-exchanged : OriginalCall
f2-exchanged = original_call 2 f2_starts f2_rows f2_values (1 ∷ 0 ∷ [])

abbrev output : List Float
output = whole 9 ∷ whole 9 ∷ []

f2-exchanged_passed : Passed (original_steps f2-exchanged (room_of f2_lent) 2)
unfolding any any_in of_int of_bits ne le first each pair_total bit_words scratch_words bound_steps broken_steps starts_steps rows_steps column_steps finite_steps stored_steps factor_steps
    diagonal_steps room_steps limited_steps
f2-exchanged_passed = refl

-- the hypotheses of the exact case are met
f2-exchanged_exact : ExactCall (original_selection f2-exchanged) f2_entries
f2-exchanged_exact =
    f2_exact cholesky (diagonal_pairs 2) 30 (room_of f2_lent) (original_accepted f2-exchanged (room_of f2_lent) 2 f2-exchanged_passed).accepted f2_diagonals

-- the call is answered with three pairs, two of them requested, and leaves these lists
f2-exchanged_left : OriginalDiagonal f2-exchanged f2_lent output (Ok (diagnosis 2 3 3 30 Complete)) f2_lists (whole 1 ∷ whole 5 ∷ [])
unfolding any any_in sum_to picked select cells cell_count tabulate filled overwrite of_int of_bits ne le add sub mul div neg first after each pair_total bit_words scratch_words
    bound_steps broken_steps starts_steps rows_steps column_steps finite_steps stored_steps factor_steps diagonal_steps room_steps limited_steps
    reach member factor_pairs diagnosis_of reordered float_table
f2-exchanged_left = record {
  replies = refl;
  lists_are = lists_passed (original_steps f2-exchanged (room_of f2_lent) 2) (filling_of (original_selection f2-exchanged)) f2_lent f2-exchanged_passed refl refl refl refl;
  output_is = refl;
}

-- `within_reply`: every reply of the call is this one
f2-exchanged-reply : {reply : Result SelectedInverseDiagnostics Refusal} {left : Lent} {out : List Float} → OriginalDiagonal f2-exchanged f2_lent output reply left out
    → reply_of reply ≡ answered (selected_answer (original_selection f2-exchanged))
unfolding any sum_to picked select cell_count of_int of_bits ne reach member
f2-exchanged-reply C = within_reply f2-exchanged f2_lent output C f2-exchanged_passed (lit≤ tt)

-- `original_exact_reply`: the outputs are the inverse's diagonal at 1 and at 0
f2-exchanged_variances : OriginalExact f2-exchanged f2_lists (whole 1 ∷ whole 5 ∷ []) f2_matrix
f2-exchanged_variances = (original_exact_reply f2-exchanged f2_lent output f2-exchanged_left refl f2_entries f2-exchanged_exact f2_matrix f2-inverse).2

f2-exchanged_complete : (selected_answer (original_selection f2-exchanged)).status ≡ Complete
unfolding any sum_to picked select cell_count of_int of_bits ne reach member
f2-exchanged_complete = f2-exchanged_variances.reads.complete.1 (lit≤ tt)

f2-exchanged_first : Whole (get_or (whole 1 ∷ whole 5 ∷ []) 0 nan) (pos 1)
f2-exchanged_first = f2-exchanged_variances.variances f2-exchanged_complete 0 (lit< tt)

f2-exchanged_second : Whole (get_or (whole 1 ∷ whole 5 ∷ []) 1 nan) (pos 5)
f2-exchanged_second = f2-exchanged_variances.variances f2-exchanged_complete 1 (lit< tt)

-- ---- the factor with the rows 2 0 and 6 4
abbrev exchanged : OriginalCall
exchanged = original_call 2 f2_starts f2_rows sixteenths_values (1 ∷ 0 ∷ [])

exchanged_passed : Passed (original_steps exchanged (room_of f2_lent) 2)
exchanged_passed = general.exchanged_passed

exchanged_dyadic : DyadicCall (original_selection exchanged) 4 sixteenths-diag sixteenths sixteenths-z
exchanged_dyadic = general.exchanged_dyadic

exchanged_left : OriginalDiagonal exchanged f2_lent output (Ok (diagnosis 2 3 3 30 Complete)) sixteenths_lists exchanged-output
exchanged_left = general.exchanged_left

-- `original_dyadic_reply`: the outputs are the inverse's diagonal at 1 and at 0, 1 / 16 and 13 / 16
exchanged_variances : OriginalMultiples exchanged sixteenths_lists exchanged-output 4 sixteenths-z sixteenths_matrix 16
exchanged_variances =
    (original_dyadic_reply exchanged f2_lent output exchanged_left refl 4 sixteenths-diag sixteenths sixteenths-z exchanged_dyadic sixteenths_matrix 16 sixteenths-inverse).2

exchanged_complete : (selected_answer (original_selection exchanged)).status ≡ Complete
exchanged_complete = general.exchanged_complete

exchanged_first : Multiple 4 (get_or exchanged-output 0 nan) (pos 1) × (pos 1 *ℤ pos 16 ≡ pos 16 *ℤ pos 1)
exchanged_first = exchanged_variances.variances exchanged_complete 0 (lit< tt)

exchanged_second : Multiple 4 (get_or exchanged-output 1 nan) (pos 13) × (pos 13 *ℤ pos 16 ≡ pos 16 *ℤ pos 13)
exchanged_second = exchanged_variances.variances exchanged_complete 1 (lit< tt)

-- ---- a set beyond the default limit: 40 columns, the first full, the others with their diagonals alone. Of 79 entries the limit is 790, and all 820 pairs are needed
abbrev arrow : OriginalCall
arrow = original_call 40 arrow_starts arrow_rows arrow_values (tabulate (λ i. i) 40)

arrow_passed : Passed (original_steps arrow (room_of arrow_lent) (length (nines 40)))
arrow_passed = general.arrow_passed

arrow_size : selected_size (original_selection arrow) ≡ 820
arrow_size = general.arrow_size

-- `beyond-reply`: so every reply of the call is 8
arrow-reply : {reply : Result SelectedInverseDiagnostics Refusal} {left : Lent} {out : List Float}
    → OriginalDiagonal arrow arrow_lent (nines 40) reply left out → reply_of reply ≡ refused 8
unfolding tabulate
arrow-reply C = beyond-reply arrow arrow_lent (nines 40) C arrow_passed (rw arrow_size (lit< tt))
