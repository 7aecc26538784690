-- F2 of document 01 with the operator row of weight 1 at both cells and limit 3, its set's size: its variance 5 - 2 - 2 + 1 is the output 2, exactly. Of the
-- factor with the rows 2 0 and 6 4, the same row and the default limit, the inverse reads back in sixteenths.
-- Assumes nothing.
use Rattle.std.specs.Prelude.{◌+◌, ◌≡◌, refl, false, [], ◌∷◌, get_or, pos, negsuc, ◌*ℤ◌, Float, Ok}
use Rattle.std.proofs.Common.{lit<, lit≤}
use Rattle.std.specs.Float.{fin, nan}
use Rattle.std.specs.Float.Ieee.{of_bits, of_int, ne, le, add, sub, mul, div, neg}
use Rattle.lists.specs.Test.{any, any_in}
use Rattle.lists.specs.Select.{select, picked}
use Rattle.lists.specs.Sum.{sum_to}
use Rattle.lists.specs.Cells.{cells, cell_count}
use Rattle.lists.specs.Tabulate.{tabulate}
use Rattle.lists.specs.Overwrite.{overwrite, filled}
use Rattle.refusal.specs.Steps.{answered, first, after, Passed}
use Rattle.bits.specs.Bits.{bit_words}
use Rattle.pairs.specs.Pair.{pair_total}
use Rattle.pairs.specs.Scratch.{scratch_words}
use Rattle.columns.specs.Columns.{value, bound_steps, broken_steps, starts_steps, rows_steps, column_steps}
use Rattle.columns.specs.Stored.{finite_steps, stored_steps}
use Rattle.columns.specs.Diagonal.{diagonal_steps}
use Rattle.columns.specs.Kept.{factor_pairs}
use Rattle.columns.specs.Form.{cholesky}
use Rattle.columns.specs.Operator.{operator_steps}
use Rattle.columns.specs.OperatorPair.{operator_pair}
use Rattle.columns.specs.Examples.{whole, f2_starts, f2_rows, f2_values}
use Rattle.exact.specs.Multiple.{Multiple, Whole}
use Rattle.exact.specs.Examples.{f2_entries, f2_matrix, sixteenths-diag, sixteenths, sixteenths-z, sixteenths_matrix}
use Rattle.exact.proofs.Examples.{columns₂, f2-inverse, sixteenths-inverse}
use Rattle.closed_set.specs.ClosedSet.{reach, member, request}
use Rattle.entries.specs.Entries.{float_table}
use Rattle.diagnostics.specs.Diagnosis.{diagnosis}
use Rattle.diagnostics.specs.declared.SelectedInverseStatus.TheVariants.{Complete, ClosureTooLarge}
use Rattle.selection.specs.Diagnosis.{diagnosis_of}
use Rattle.selection.specs.Selection.{lists, room_of, room_steps, default_limit, selected_answer, filling_of}
use Rattle.selection.proofs.Selection.{lists_passed}
use Rattle.exact_entries.specs.DyadicEntries.{DyadicCall}
use Rattle.exact_entries.specs.ExactEntries.{ExactCall}
use Rattle.exact_entries.specs.Worked.{f2_lent, f2_cleared, f2_lists}
use Rattle.exact_entries.proofs.Worked.{f2_diagonals, f2_exact}
use Rattle.exact_entries.specs.DyadicWorked.{sixteenths_values, sixteenths_lists, sixteenths_found, SixteenthsRead}
use Rattle.exact_entries.proofs.DyadicWorked.{sixteenths_dyadic}
use Rattle.request_marks.specs.OperatorRequests.{operator_requested}
use Rattle.quadratic_form.specs.CrossValue.{add_terms, add_places}
use Rattle.quadratic_form.specs.RowValue.{operator_values}
use Rattle.quadratic_form.proofs.Examples.{f2_row_within}
use Rattle.operator_variances_with_limit.specs.Transformed.{TransformedCall, transformed_call, transformed_selection, transformed_steps, TransformedDiagonal, transformed_accepted}
use Rattle.operator_variances_with_limit.specs.ExactVariances.{ExactRow, TransformedExact}
use Rattle.operator_variances_with_limit.proofs.ExactVariances.{transformed_exact_reply, transformed_dyadic_reply}

abbrev f2_row : TransformedCall
f2_row = transformed_call 2 f2_starts f2_rows f2_values 2 (0 ∷ 2 ∷ []) (0 ∷ 1 ∷ []) (whole 1 ∷ whole 1 ∷ []) 3

f2_row_passed : Passed (transformed_steps f2_row (room_of f2_lent) 1)
unfolding any any_in of_int of_bits ne le first pair_total bit_words scratch_words bound_steps broken_steps starts_steps rows_steps column_steps finite_steps stored_steps operator_steps
    diagonal_steps room_steps transformed_steps
f2_row_passed = refl

-- the hypotheses of the exact case are met, of the call and of its row
f2_row_call : ExactCall (transformed_selection f2_row) f2_entries
f2_row_call =
    f2_exact cholesky (operator_requested (0 ∷ 2 ∷ []) (0 ∷ 1 ∷ [])) 3 (room_of f2_lent)
    (transformed_accepted f2_row (room_of f2_lent) 1 f2_row_passed).accepted f2_diagonals

f2_row_exact : ExactRow f2_row (λ p. pos 1) f2_matrix 0
unfolding of_int
f2_row_exact = record { weights = columns₂ (λ p. Whole (value (whole 1 ∷ whole 1 ∷ []) (0 + p)) (pos 1)) refl refl; within = f2_row_within }

-- the call is answered with three pairs, all of them requested, and leaves these lists
f2_row_left : TransformedDiagonal f2_row f2_lent (whole 9 ∷ []) (Ok (diagnosis 3 3 3 3 Complete)) f2_lists (whole 2 ∷ [])
unfolding any any_in sum_to picked select cells cell_count tabulate filled overwrite of_int of_bits ne le add sub mul div neg first after pair_total bit_words scratch_words
    bound_steps broken_steps starts_steps rows_steps column_steps finite_steps stored_steps operator_steps diagonal_steps room_steps transformed_steps
    reach member factor_pairs diagnosis_of operator_pair operator_values add_terms add_places float_table
f2_row_left = record {
  selected = record {
    replies = refl;
    lists_are = lists_passed (transformed_steps f2_row (room_of f2_lent) 1) (filling_of (transformed_selection f2_row)) f2_lent f2_row_passed refl refl refl refl;
    output_is = refl;
  };
}

-- `transformed_exact_reply`: the output is vᵀXv
f2_row_variances : TransformedExact f2_row f2_lists (whole 2 ∷ []) f2_matrix
f2_row_variances = (transformed_exact_reply f2_row f2_lent (whole 9 ∷ []) f2_row_left refl f2_entries f2_row_call f2_matrix f2-inverse).1

f2_row_complete : (selected_answer (transformed_selection f2_row)).status ≡ Complete
unfolding any any_in sum_to picked select cell_count of_int of_bits ne reach member operator_pair
f2_row_complete = f2_row_variances.reads.complete.1 (lit≤ tt)

f2_row_variance : Whole (get_or (whole 2 ∷ []) 0 nan) (pos 2)
f2_row_variance = f2_row_variances.variances f2_row_complete 0 (lit< tt) (λ p. pos 1) f2_row_exact

-- ---- with a limit one below the set's size the call is answered with ClosureTooLarge: its result lists and its output are as they were
abbrev f2_limited : TransformedCall
f2_limited = transformed_call 2 f2_starts f2_rows f2_values 2 (0 ∷ 2 ∷ []) (0 ∷ 1 ∷ []) (whole 1 ∷ whole 1 ∷ []) 2

f2_limited_passed : Passed (transformed_steps f2_limited (room_of f2_lent) 1)
unfolding any any_in of_int of_bits ne le first pair_total bit_words scratch_words bound_steps broken_steps starts_steps rows_steps column_steps finite_steps stored_steps operator_steps
    diagonal_steps room_steps transformed_steps
f2_limited_passed = refl

f2_limited_left : TransformedDiagonal f2_limited f2_lent (whole 9 ∷ []) (Ok (diagnosis 3 3 3 2 ClosureTooLarge))
    (lists f2_lent.result_starts f2_lent.result_rows f2_lent.result_values f2_cleared) (whole 9 ∷ [])
unfolding any any_in sum_to picked select cell_count tabulate filled overwrite of_int of_bits ne le first after pair_total bit_words scratch_words
    bound_steps broken_steps starts_steps rows_steps column_steps finite_steps stored_steps operator_steps diagonal_steps room_steps transformed_steps
    reach member factor_pairs diagnosis_of operator_pair
f2_limited_left = record {
  selected = record {
    replies = refl;
    lists_are = lists_passed (transformed_steps f2_limited (room_of f2_lent) 1) (filling_of (transformed_selection f2_limited)) f2_lent f2_limited_passed refl refl refl refl;
    output_is = refl;
  };
}

-- ---- the factor with the rows 2 0 and 6 4 and the same operator row: 13 / 16 - 3 / 16 - 3 / 16 + 1 / 16 is 1 / 2
abbrev row : TransformedCall
row = transformed_call 2 f2_starts f2_rows sixteenths_values 2 (0 ∷ 2 ∷ []) (0 ∷ 1 ∷ []) (whole 1 ∷ whole 1 ∷ []) (default_limit f2_rows)

pub row_passed : Passed (transformed_steps row (room_of f2_lent) 1)
unfolding any any_in of_int of_bits ne le first pair_total bit_words scratch_words bound_steps broken_steps starts_steps rows_steps column_steps finite_steps stored_steps operator_steps
    diagonal_steps room_steps transformed_steps
row_passed = refl

pub row_dyadic : DyadicCall (transformed_selection row) 4 sixteenths-diag sixteenths sixteenths-z
row_dyadic = sixteenths_dyadic (operator_requested (0 ∷ 2 ∷ []) (0 ∷ 1 ∷ [])) 30 (room_of f2_lent) (transformed_accepted row (room_of f2_lent) 1 row_passed).accepted

pub row_left : TransformedDiagonal row f2_lent (whole 9 ∷ []) (Ok (diagnosis 3 3 3 30 Complete)) sixteenths_lists (fin false 1 (negsuc 0) ∷ [])
unfolding any any_in sum_to picked select cells cell_count tabulate filled overwrite of_int of_bits ne le add sub mul div neg first after pair_total bit_words scratch_words
    bound_steps broken_steps starts_steps rows_steps column_steps finite_steps stored_steps operator_steps diagonal_steps room_steps transformed_steps
    reach member factor_pairs diagnosis_of operator_pair operator_values add_terms add_places float_table
row_left = record {
  selected = record {
    replies = refl;
    lists_are = lists_passed (transformed_steps row (room_of f2_lent) 1) (filling_of (transformed_selection row)) f2_lent row_passed refl refl refl refl;
    output_is = refl;
  };
}

-- `transformed_dyadic_reply`: the inverse over 16 is what reads back, so at (1, 0), which the row asks for, a number equal to -3 / 16
row_reads : SixteenthsRead (transformed_selection row)
row_reads =
    (transformed_dyadic_reply row f2_lent (whole 9 ∷ []) row_left refl 4 sixteenths-diag sixteenths sixteenths-z row_dyadic sixteenths_matrix 16 sixteenths-inverse).1

pub row_complete : (selected_answer (transformed_selection row)).status ≡ Complete
unfolding any any_in sum_to picked select cell_count of_int of_bits ne reach member operator_pair
row_complete = row_reads.complete.1 (lit≤ tt)

row_reads_below : (v : Float) × (sixteenths_found (transformed_selection row) 1 0 ≡ answered v) × Multiple 4 v (negsuc 2) × (negsuc 2 *ℤ pos 16 ≡ pos 16 *ℤ negsuc 2)
unfolding any any_in sum_to picked select operator_pair
row_reads_below = row_reads.members row_complete 1 0 (request refl)
