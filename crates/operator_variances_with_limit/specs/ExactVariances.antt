-- The exact case of operator variances with a limit: for whole weights each row's value is the exact vᵀXv. Beyond unit diagonals, what reads back.
-- Assumes nothing.
use Rattle.std.specs.Prelude.{ℕ, ◌+◌, ◌-◌, ◌<◌, ◌≡◌, List, get_or, ℤ, Float}
use Rattle.std.specs.Float.{nan}
use Rattle.columns.specs.Columns.{start, value}
use Rattle.columns.specs.Operator.{operator_rows}
use Rattle.integers.specs.Matrix.{Matrix}
use Rattle.exact.specs.Multiple.{Whole}
use Rattle.diagnostics.specs.declared.SelectedInverseStatus.TheVariants.{Complete}
use Rattle.selection.specs.Selection.{Lent, selected_answer}
use Rattle.exact_entries.specs.ExactEntries.{ReadsBack}
use Rattle.quadratic_form.specs.RowValue.{term_column}
use Rattle.quadratic_form.specs.ExactRow.{quadratic, RowWithin}
use Rattle.operator_variances_with_limit.specs.Transformed.{TransformedCall, transformed_selection}

module _ (x : TransformedCall) where
  -- the first place of row i, and how many places it has
  abbrev pub first_of_row : ℕ → ℕ
  first_of_row i = start x.row_starts i

  abbrev pub places_of_row : ℕ → ℕ
  places_of_row i = start x.row_starts (i + 1) - start x.row_starts i

  -- row i has the whole weights v, and no weight product, product with an entry or running sum is beyond 2 ^ 53
  pub record ExactRow (v : ℕ → ℤ) (X : Matrix) (i : ℕ) : Type 0 where
    pub weights : (p : ℕ) → p < places_of_row i → Whole (value x.weights (first_of_row i + p)) (v (first_of_row i + p))
    pub within : RowWithin (term_column x.columns) v X (first_of_row i) (places_of_row i)

  -- X is what reads back, and vᵀXv what the output holds for each row in the exact case
  pub record TransformedExact (left : Lent) (out : List Float) (X : Matrix) : Type 0 where
    pub reads : ReadsBack (transformed_selection x) left X
    pub variances : (selected_answer (transformed_selection x)).status ≡ Complete → (i : ℕ) → i < operator_rows x.row_starts → (v : ℕ → ℤ) → ExactRow v X i
        → Whole (get_or out i nan) (quadratic (term_column x.columns) v X (first_of_row i) (places_of_row i))
