-- F2 of document 01 with the operator row 1 at 0, 1 at 1, and small rows: what the definitions give, by computation.
-- Assumes nothing.
use Rattle.std.specs.Prelude.{ℕ, zero, suc, ◌+◌, ◌<◌, List, [], ◌∷◌, ◌≡◌, refl, pos, negsuc, Float}
use Rattle.std.proofs.Common.{arith, lit<, lit≤}
use Rattle.std.specs.Float.Ieee.{of_bits, of_int, ne, add, sub, mul, div, neg}
use Rattle.lists.specs.Select.{select, picked}
use Rattle.lists.specs.Tabulate.{tabulate}
use Rattle.columns.specs.Columns.{value}
use Rattle.columns.specs.Examples.{whole, f2_starts, f2_rows, f2_values}
use Rattle.takahashi.specs.Recurrence.{at}
use Rattle.exact.specs.Multiple.{Whole, Small}
use Rattle.exact.specs.Exact.{floats}
use Rattle.exact.specs.Examples.{f2_matrix}
use Rattle.entries.specs.Entries.{float_table}
use Rattle.quadratic_form.specs.CrossValue.{add_terms, add_places}
use Rattle.quadratic_form.specs.RowValue.{term_column, row_value, operator_values, row_pair_value}
use Rattle.quadratic_form.specs.ExactCross.{exact_term, running_sum, bilinear}
use Rattle.quadratic_form.specs.ExactRow.{quadratic, RowWithin, WholeRow}
use Rattle.quadratic_form.proofs.ExactRow.{row_value_exact}

f2_operator : operator_values (0 ∷ 2 ∷ []) (0 ∷ 1 ∷ []) (whole 1 ∷ whole 1 ∷ []) (float_table 2 f2_starts f2_rows f2_values) ≡ whole 2 ∷ []
unfolding operator_values tabulate add_terms add_places float_table select picked of_bits of_int ne add sub mul div neg
f2_operator = refl

-- a column that occurs twice counts twice: (1 + 1)² · 5
f2-repeated : operator_values (0 ∷ 2 ∷ []) (0 ∷ 0 ∷ []) (whole 1 ∷ whole 1 ∷ []) (float_table 2 f2_starts f2_rows f2_values) ≡ whole 20 ∷ []
unfolding operator_values tabulate add_terms add_places float_table select picked of_bits of_int ne add sub mul div neg
f2-repeated = refl

-- a row without terms is 0.0
f2-empty : operator_values (0 ∷ 0 ∷ []) [] [] (float_table 2 f2_starts f2_rows f2_values) ≡ whole 0 ∷ []
unfolding operator_values tabulate add_terms add_places float_table select picked of_bits of_int ne add sub mul div neg
f2-empty = refl

-- two rows: 3 at 0 with 2 at 1 is (3·2)·(−2)
f2-cross : row_pair_value (0 ∷ 1 ∷ []) (0 ∷ []) (whole 3 ∷ []) (0 ∷ 1 ∷ []) (1 ∷ []) (whole 2 ∷ []) (float_table 2 f2_starts f2_rows f2_values) 0 0 ≡ neg (whole 12)
unfolding add_terms add_places float_table select picked of_bits of_int ne add sub mul div neg
f2-cross = refl

-- with the inverse of F2's L-as-Lᵀ, that row's vᵀXv
f2-quadratic : quadratic (term_column (0 ∷ 1 ∷ [])) (λ p. pos 1) f2_matrix 0 2 ≡ pos 2
f2-quadratic = refl

f2-bilinear : bilinear (term_column (0 ∷ [])) (term_column (1 ∷ [])) (λ p. pos 3) (λ p. pos 2) f2_matrix 0 1 0 1 ≡ negsuc 11
f2-bilinear = refl

-- ---- `row_value_exact` at that row
abbrev f2_weights : List Float
f2_weights = whole 1 ∷ whole 1 ∷ []

-- a fact of two places, case by case
places₂ : (G : ℕ → ℕ → Type 0) → G 0 0 → G 0 1 → G 1 0 → G 1 1 → (i j : ℕ) → i < 2 → j < 2 → G i j
places₂ G a b c d zero zero h l = a
places₂ G a b c d zero (suc zero) h l = b
places₂ G a b c d (suc zero) zero h l = c
places₂ G a b c d (suc zero) (suc zero) h l = d
places₂ G a b c d zero (suc (suc j)) h l = absurd (omega arith)
places₂ G a b c d (suc zero) (suc (suc j)) h l = absurd (omega arith)
places₂ G a b c d (suc (suc i)) j h l = absurd (omega arith)

f2_whole : WholeRow (term_column (0 ∷ 1 ∷ [])) (value f2_weights) (float_table 2 f2_starts f2_rows f2_values) (λ p. pos 1) f2_matrix 0 2
unfolding float_table select picked of_bits of_int ne add sub mul div neg
f2_whole = record {
  weights = λ i h. places₂ (λ a b. Whole (value f2_weights (0 + a)) (pos 1)) refl refl refl refl i 0 h (lit< tt);
  entries =
      places₂ (λ i j. Whole (at (float_table 2 f2_starts f2_rows f2_values) (term_column (0 ∷ 1 ∷ []) (0 + i)) (term_column (0 ∷ 1 ∷ []) (0 + j)))
      (f2_matrix (term_column (0 ∷ 1 ∷ []) (0 + i)) (term_column (0 ∷ 1 ∷ []) (0 + j)))) refl refl refl refl;
}

pub f2_row_within : RowWithin (term_column (0 ∷ 1 ∷ [])) (λ p. pos 1) f2_matrix 0 2
f2_row_within = record {
  weights = λ i j h l. lit≤ tt;
  terms = places₂ (λ i j. Small (exact_term (term_column (0 ∷ 1 ∷ [])) (term_column (0 ∷ 1 ∷ [])) (λ p. pos 1) (λ p. pos 1) f2_matrix 0 2 0 2 i j)) (lit≤ tt) (lit≤ tt) (lit≤ tt) (lit≤ tt);
  sums = places₂ (λ i j. Small (running_sum (term_column (0 ∷ 1 ∷ [])) (term_column (0 ∷ 1 ∷ [])) (λ p. pos 1) (λ p. pos 1) f2_matrix 0 2 0 2 i (suc j))) (lit≤ tt) (lit≤ tt) (lit≤ tt) (lit≤ tt);
}

f2_exact : Whole (row_value floats (term_column (0 ∷ 1 ∷ [])) (value f2_weights) (float_table 2 f2_starts f2_rows f2_values) 0 2) (pos 2)
f2_exact = row_value_exact (term_column (0 ∷ 1 ∷ [])) (value f2_weights) (float_table 2 f2_starts f2_rows f2_values) (λ p. pos 1) f2_matrix 0 2 f2_whole f2_row_within
