-- The exact case of covariances with a limit: for whole weights each row pair's value is the exact vᵀXu, and exchanging the operators gives the same. Beyond unit
-- diagonals, what reads back.
-- Assumes nothing.
use Rattle.std.specs.Prelude.{ℕ, ◌+◌, ◌-◌, ◌<◌, ◌≡◌, length, ℤ, Float}
use mathlib.Core.List.{List}
use Rattle.std.proofs.Math.ListN.{get_or}
use Rattle.std.specs.Float.Ieee.{nan}
use Rattle.columns.specs.Columns.{start, value}
use Rattle.integers.specs.Matrix.{Matrix}
use Rattle.exact.specs.Multiple.{Whole}
use Rattle.diagnostics.specs.declared.SelectedInverseStatus.TheVariants.{Complete}
use Rattle.selection.specs.Selection.{Lent, selected_answer}
use Rattle.exact_entries.specs.ExactEntries.{ReadsBack}
use Rattle.quadratic_form.specs.RowValue.{term_column}
use Rattle.quadratic_form.specs.ExactCross.{bilinear, RowsWithin}
use Rattle.covariances_with_limit.specs.Covariances.{Operator, CovarianceCall, covariance_selection}

-- the first place of an operator's row, and how many places it has
abbrev pub first_place : Operator → ℕ → ℕ
first_place o i = start o.row_starts i

abbrev pub place_count : Operator → ℕ → ℕ
place_count o i = start o.row_starts (i + 1) - start o.row_starts i

-- the same call with the operators exchanged
abbrev pub exchanged : CovarianceCall → CovarianceCall
exchanged x = record { factor = x.factor; a = x.b; b = x.a; a_rows = x.b_rows; b_rows = x.a_rows; limit = x.limit }

module _ (x : CovarianceCall) where
  -- the rows of row pair p
  abbrev pub a_row : ℕ → ℕ
  a_row p = get_or x.a_rows p 0

  abbrev pub b_row : ℕ → ℕ
  b_row p = get_or x.b_rows p 0

  -- vᵀXu of row pair p, whose rows have the whole weights v and u
  abbrev pub exact_covariance : (ℕ → ℤ) → (ℕ → ℤ) → Matrix → ℕ → ℤ
  exact_covariance v u X p =
      bilinear (term_column x.a.columns) (term_column x.b.columns) v u X
      (first_place x.a (a_row p)) (place_count x.a (a_row p)) (first_place x.b (b_row p)) (place_count x.b (b_row p))

  -- row pair p has the whole weights v and u, and no weight product, product with an entry or running sum is beyond 2 ^ 53
  pub record ExactPair (v u : ℕ → ℤ) (X : Matrix) (p : ℕ) : Type 0 where
    pub first : (i : ℕ) → i < place_count x.a (a_row p) → Whole (value x.a.weights (first_place x.a (a_row p) + i)) (v (first_place x.a (a_row p) + i))
    pub second : (j : ℕ) → j < place_count x.b (b_row p) → Whole (value x.b.weights (first_place x.b (b_row p) + j)) (u (first_place x.b (b_row p) + j))
    pub within : RowsWithin (term_column x.a.columns) (term_column x.b.columns) v u X
        (first_place x.a (a_row p)) (place_count x.a (a_row p)) (first_place x.b (b_row p)) (place_count x.b (b_row p))

  -- X is what reads back, and vᵀXu what the output holds for each row pair in the exact case
  pub record CovariancesExact (left : Lent) (out : List Float) (X : Matrix) : Type 0 where
    pub reads : ReadsBack (covariance_selection x) left X
    pub covariances : (selected_answer (covariance_selection x)).status ≡ Complete → (p : ℕ) → p < length x.a_rows → (v u : ℕ → ℤ) → ExactPair v u X p
        → Whole (get_or out p nan) (exact_covariance v u X p)
