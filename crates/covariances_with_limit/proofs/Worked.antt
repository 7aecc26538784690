-- F2 of document 01, cell 0 with weight 3 and cell 1 with weight 2, and limit 2, the set's size: their covariance 3 * 2 * -2 is the output -12, exactly, and so
-- it is exchanged. Of the factor with the rows 2 0 and 6 4, the same operators and the default limit, the inverse reads back in sixteenths.
-- Assumes nothing.
use Rattle.std.specs.Prelude.{ℕ, zero, suc, ◌+◌, ◌<◌, ◌≡◌, refl, true, false, List, [], ◌∷◌, get_or, pos, negsuc, ◌*ℤ◌, Float, Ok}
use Rattle.std.proofs.Common.{arith, sym, lit<, lit≤}
use Rattle.std.specs.Float.{fin, nan}
use Rattle.std.specs.Float.Ieee.{of_bits, of_int, ne, le, add, sub, mul, div, neg}
use Rattle.lists.specs.Test.{any, any_in}
use Rattle.lists.specs.Select.{select, picked}
use Rattle.lists.specs.Sum.{sum_to}
use Rattle.lists.specs.Cells.{cells, cell_count}
use Rattle.lists.specs.Tabulate.{tabulate}
use Rattle.lists.specs.Overwrite.{overwrite, filled}
use Rattle.refusal.specs.Steps.{Reply, refused, answered, first, after, verdict, Passed}
use Rattle.bits.specs.Bits.{bit_words}
use Rattle.pairs.specs.Pair.{pair_total}
use Rattle.pairs.specs.Scratch.{scratch_words}
use Rattle.columns.specs.Columns.{value, bound_steps, broken_steps, starts_steps, rows_steps, column_steps}
use Rattle.columns.specs.Stored.{finite_steps, stored_steps}
use Rattle.columns.specs.Diagonal.{diagonal_steps}
use Rattle.columns.specs.Kept.{factor_pairs}
use Rattle.columns.specs.Form.{cholesky}
use Rattle.columns.specs.Operator.{operator_steps}
use Rattle.columns.specs.Examples.{whole, f2_starts, f2_rows, f2_values}
use Rattle.exact.specs.Multiple.{Multiple, Whole}
use Rattle.exact.specs.Examples.{f2_entries, f2_matrix, sixteenths-diag, sixteenths, sixteenths-z, sixteenths_matrix}
use Rattle.exact.proofs.Examples.{f2-inverse, sixteenths-inverse}
use Rattle.closed_set.specs.ClosedSet.{reach, member, request}
use Rattle.entries.specs.Entries.{float_table}
use Rattle.diagnostics.specs.Diagnosis.{diagnosis}
use Rattle.diagnostics.specs.declared.SelectedInverseStatus.TheVariants.{Complete, ClosureTooLarge}
use Rattle.selection.specs.Diagnosis.{diagnosis_of}
use Rattle.selection.specs.Selection.{room_of, room_steps, default_limit, selected_answer, filling_of, Lent, lists}
use Rattle.selection.proofs.Selection.{lists_passed}
use Rattle.exact_entries.specs.Recurrence.{found}
use Rattle.exact_entries.specs.DyadicEntries.{DyadicCall, ReadsMultiples}
use Rattle.exact_entries.specs.ExactEntries.{ExactCall}
use Rattle.exact_entries.specs.Worked.{f2_lent, f2_cleared}
use Rattle.exact_entries.proofs.Worked.{f2_diagonals, f2_exact}
use Rattle.exact_entries.specs.DyadicWorked.{sixteenths_values, sixteenth}
use Rattle.exact_entries.proofs.DyadicWorked.{sixteenths_dyadic}
use Rattle.request_marks.specs.CrossRequests.{cross_requested}
use Rattle.quadratic_form.specs.CrossValue.{add_terms, add_places}
use Rattle.quadratic_form.specs.RowValue.{term_column, row_pair_values}
use Rattle.quadratic_form.specs.ExactCross.{RowsWithin}
use Rattle.covariances_with_limit.specs.Covariances.{operator, CovarianceCall, covariance_call, covariance_selection, covariance_steps, Covariances, covariance_accepted}
use Rattle.covariances_with_limit.specs.ExactCovariances.{exchanged, exact_covariance, ExactPair, CovariancesExact}
use Rattle.covariances_with_limit.proofs.ExactCovariances.{covariance_exchanged, covariance_exact_reply, covariance_dyadic_reply}

abbrev f2_pair : CovarianceCall
f2_pair =
    covariance_call 2 f2_starts f2_rows f2_values (operator 2 (0 ∷ 1 ∷ []) (0 ∷ []) (whole 3 ∷ [])) (operator 2 (0 ∷ 1 ∷ []) (1 ∷ []) (whole 2 ∷ [])) (0 ∷ []) (0 ∷ []) 2

f2_pair_passed : Passed (covariance_steps f2_pair (room_of f2_lent) 1)
unfolding any any_in of_int of_bits ne le first pair_total bit_words scratch_words bound_steps broken_steps starts_steps rows_steps column_steps finite_steps stored_steps operator_steps
    diagonal_steps room_steps covariance_steps
f2_pair_passed = refl

-- ---- the order of refusals
-- the same operators with a factor of these values and row pairs of these lists
abbrev f2-verdict : List Float → List ℕ → List ℕ → Reply (Unit {0})
f2-verdict values a_rows b_rows =
    verdict (covariance_steps (covariance_call 2 f2_starts f2_rows values f2_pair.a f2_pair.b a_rows b_rows 2) (room_of f2_lent) 1)

-- 18 before 4: an entry that is not finite, and lists of unequal length
not_finite_first : f2-verdict (whole 1 ∷ nan ∷ whole 1 ∷ []) (0 ∷ []) [] ≡ refused 18
unfolding any any_in of_int of_bits ne le first bound_steps broken_steps starts_steps rows_steps column_steps finite_steps stored_steps operator_steps diagonal_steps covariance_steps
not_finite_first = refl

-- 4 before 6: lists of unequal length, and a diagonal of 0.0; 9 before 6: a row outside, and that diagonal
unequal_before_diagonal : f2-verdict (whole 0 ∷ whole 2 ∷ whole 1 ∷ []) (0 ∷ []) [] ≡ refused 4
unfolding any any_in of_int of_bits ne le first bound_steps broken_steps starts_steps rows_steps column_steps finite_steps stored_steps operator_steps diagonal_steps covariance_steps
unequal_before_diagonal = refl

outside_before_diagonal : f2-verdict (whole 0 ∷ whole 2 ∷ whole 1 ∷ []) (1 ∷ []) (0 ∷ []) ≡ refused 9
unfolding any any_in of_int of_bits ne le first bound_steps broken_steps starts_steps rows_steps column_steps finite_steps stored_steps operator_steps diagonal_steps covariance_steps
outside_before_diagonal = refl

-- ---- the exact case
-- its hypotheses are met, of the call and of its row pair
f2_pair_call : ExactCall (covariance_selection f2_pair) f2_entries
f2_pair_call =
    f2_exact cholesky (cross_requested (0 ∷ 1 ∷ []) (0 ∷ []) (0 ∷ 1 ∷ []) (1 ∷ []) (0 ∷ []) (0 ∷ [])) 2 (room_of f2_lent)
    (covariance_accepted f2_pair (room_of f2_lent) 1 f2_pair_passed).accepted f2_diagonals

-- a fact of one place, and of one place of each row
pub place₁ : (G : ℕ → Type 0) → G 0 → (i : ℕ) → i < 1 → G i
place₁ G g zero h = g
place₁ G g (suc i) h = absurd (omega arith)

places₁ : (G : ℕ → ℕ → Type 0) → G 0 0 → (i j : ℕ) → i < 1 → j < 1 → G i j
places₁ G g i j h l = place₁ (λ i. (j : ℕ) → j < 1 → G i j) (place₁ (G 0) g) i h j l

pub f2_pair_within : RowsWithin (term_column (0 ∷ [])) (term_column (1 ∷ [])) (λ p. pos 3) (λ p. pos 2) f2_matrix 0 1 0 1
f2_pair_within = record { weights = λ i j h l. lit≤ tt; terms = places₁ _ (lit≤ tt); sums = places₁ _ (lit≤ tt) }

f2_pair_exact : ExactPair f2_pair (λ p. pos 3) (λ p. pos 2) f2_matrix 0
unfolding of_int
f2_pair_exact = record {
  first = place₁ (λ i. Whole (value (whole 3 ∷ []) (0 + i)) (pos 3)) refl;
  second = place₁ (λ j. Whole (value (whole 2 ∷ []) (0 + j)) (pos 2)) refl;
  within = f2_pair_within;
}

-- the call is answered with the pairs (1, 0), which is requested, and (1, 1), and leaves these lists
abbrev pub pair_lists : Lent
pair_lists = lists (0 ∷ 1 ∷ 2 ∷ []) (1 ∷ 1 ∷ 9 ∷ []) (neg (whole 2) ∷ whole 1 ∷ whole 9 ∷ []) f2_cleared

f2_pair_left : Covariances f2_pair f2_lent (whole 9 ∷ []) (Ok (diagnosis 1 2 3 2 Complete)) pair_lists (neg (whole 12) ∷ [])
unfolding any any_in sum_to picked select cells cell_count tabulate filled overwrite of_int of_bits ne le add sub mul div neg first after pair_total bit_words scratch_words
    bound_steps broken_steps starts_steps rows_steps column_steps finite_steps stored_steps operator_steps diagonal_steps room_steps covariance_steps
    reach member factor_pairs diagnosis_of cross_requested row_pair_values add_terms add_places float_table
f2_pair_left = record {
  selected = record {
    replies = refl;
    lists_are = lists_passed (covariance_steps f2_pair (room_of f2_lent) 1) (filling_of (covariance_selection f2_pair)) f2_lent f2_pair_passed refl refl refl refl;
    output_is = refl;
  };
}

-- `covariance_exact_reply`: the output is vᵀXu
f2_pair_covariances : CovariancesExact f2_pair pair_lists (neg (whole 12) ∷ []) f2_matrix
f2_pair_covariances = (covariance_exact_reply f2_pair f2_lent (whole 9 ∷ []) f2_pair_left refl f2_entries f2_pair_call f2_matrix f2-inverse).1

f2_pair_complete : (selected_answer (covariance_selection f2_pair)).status ≡ Complete
unfolding any any_in sum_to picked select cell_count of_int of_bits ne reach member cross_requested
f2_pair_complete = f2_pair_covariances.reads.complete.1 (lit≤ tt)

f2_pair_covariance : Whole (get_or (neg (whole 12) ∷ []) 0 nan) (negsuc 11)
f2_pair_covariance = f2_pair_covariances.covariances f2_pair_complete 0 (lit< tt) (λ p. pos 3) (λ p. pos 2) f2_pair_exact

-- `covariance_exchanged`
f2_pair_exchanged : exact_covariance (exchanged f2_pair) (λ p. pos 2) (λ p. pos 3) f2_matrix 0 ≡ negsuc 11
f2_pair_exchanged = sym (covariance_exchanged f2_pair f2_lent (whole 9 ∷ []) f2_pair_passed f2_entries f2_pair_call f2_matrix f2-inverse (λ p. pos 3) (λ p. pos 2) 0 (lit< tt))

-- ---- with a limit one below the set's size the call is answered with ClosureTooLarge: its result lists and its output are as they were
abbrev f2_limited : CovarianceCall
f2_limited = covariance_call 2 f2_starts f2_rows f2_values f2_pair.a f2_pair.b (0 ∷ []) (0 ∷ []) 1

f2_limited_passed : Passed (covariance_steps f2_limited (room_of f2_lent) 1)
unfolding any any_in of_int of_bits ne le first pair_total bit_words scratch_words bound_steps broken_steps starts_steps rows_steps column_steps finite_steps stored_steps operator_steps
    diagonal_steps room_steps covariance_steps
f2_limited_passed = refl

f2_limited_left : Covariances f2_limited f2_lent (whole 9 ∷ []) (Ok (diagnosis 1 2 3 1 ClosureTooLarge))
    (lists f2_lent.result_starts f2_lent.result_rows f2_lent.result_values f2_cleared) (whole 9 ∷ [])
unfolding any any_in sum_to picked select cell_count tabulate filled overwrite of_int of_bits ne le first after pair_total bit_words scratch_words
    bound_steps broken_steps starts_steps rows_steps column_steps finite_steps stored_steps operator_steps diagonal_steps room_steps covariance_steps
    reach member factor_pairs diagnosis_of cross_requested
f2_limited_left = record {
  selected = record {
    replies = refl;
    lists_are = lists_passed (covariance_steps f2_limited (room_of f2_lent) 1) (filling_of (covariance_selection f2_limited)) f2_lent f2_limited_passed refl refl refl refl;
    output_is = refl;
  };
}

-- ---- the factor with the rows 2 0 and 6 4 and the same operators: 3 * 2 * -3 / 16 is -9 / 8
abbrev pair : CovarianceCall
pair = covariance_call 2 f2_starts f2_rows sixteenths_values f2_pair.a f2_pair.b (0 ∷ []) (0 ∷ []) (default_limit f2_rows)

pub pair_passed : Passed (covariance_steps pair (room_of f2_lent) 1)
unfolding any any_in of_int of_bits ne le first pair_total bit_words scratch_words bound_steps broken_steps starts_steps rows_steps column_steps finite_steps stored_steps operator_steps
    diagonal_steps room_steps covariance_steps
pair_passed = refl

pub pair_dyadic : DyadicCall (covariance_selection pair) 4 sixteenths-diag sixteenths sixteenths-z
pair_dyadic =
    sixteenths_dyadic (cross_requested (0 ∷ 1 ∷ []) (0 ∷ []) (0 ∷ 1 ∷ []) (1 ∷ []) (0 ∷ []) (0 ∷ [])) 30 (room_of f2_lent)
    (covariance_accepted pair (room_of f2_lent) 1 pair_passed).accepted

-- the lists that it leaves
abbrev pub pair_sixteenths : Lent
pair_sixteenths = lists (0 ∷ 1 ∷ 2 ∷ []) (1 ∷ 1 ∷ 9 ∷ []) (sixteenth true 3 ∷ sixteenth false 1 ∷ whole 9 ∷ []) f2_cleared

pub pair_left : Covariances pair f2_lent (whole 9 ∷ []) (Ok (diagnosis 1 2 3 30 Complete)) pair_sixteenths (fin true 9 (negsuc 2) ∷ [])
unfolding any any_in sum_to picked select cells cell_count tabulate filled overwrite of_int of_bits ne le add sub mul div neg first after pair_total bit_words scratch_words
    bound_steps broken_steps starts_steps rows_steps column_steps finite_steps stored_steps operator_steps diagonal_steps room_steps covariance_steps
    reach member factor_pairs diagnosis_of cross_requested row_pair_values add_terms add_places float_table
pair_left = record {
  selected = record {
    replies = refl;
    lists_are = lists_passed (covariance_steps pair (room_of f2_lent) 1) (filling_of (covariance_selection pair)) f2_lent pair_passed refl refl refl refl;
    output_is = refl;
  };
}

-- `covariance_dyadic_reply`: the inverse over 16 is what reads back, so at (1, 0), which the row pair asks for, a number equal to -3 / 16
pair_reads : ReadsMultiples (covariance_selection pair) pair_sixteenths 4 sixteenths-z sixteenths_matrix 16
pair_reads =
    (covariance_dyadic_reply pair f2_lent (whole 9 ∷ []) pair_left refl 4 sixteenths-diag sixteenths sixteenths-z pair_dyadic sixteenths_matrix 16 sixteenths-inverse).1

pub pair_complete : (selected_answer (covariance_selection pair)).status ≡ Complete
unfolding any any_in sum_to picked select cell_count of_int of_bits ne reach member cross_requested
pair_complete = pair_reads.complete.1 (lit≤ tt)

pair_reads_below : (v : Float) × (found (covariance_selection pair) pair_sixteenths 1 0 ≡ answered v) × Multiple 4 v (negsuc 2) × (negsuc 2 *ℤ pos 16 ≡ pos 16 *ℤ negsuc 2)
unfolding any any_in cross_requested
pair_reads_below = pair_reads.members pair_complete 1 0 (request refl)
