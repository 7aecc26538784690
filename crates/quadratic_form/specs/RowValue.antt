-- The value of an operator's row: from zero, for each a of the row and for each b of the row, (w(a)·w(b))·Z(a, b) is added. It is the value of the row
-- with itself. Assumes nothing.
use Rattle.std.specs.Prelude.{ℕ, ◌+◌, List, length, get_or, Float}
use Rattle.lists.specs.Tabulate.{tabulate}
use Rattle.columns.specs.Columns.{start, value}
use Rattle.columns.specs.Operator.{operator_rows}
use Rattle.takahashi.specs.Recurrence.{Arithmetic}
use Rattle.exact.specs.Exact.{floats}
use Rattle.quadratic_form.specs.CrossValue.{cross_value}

-- the value of the row with the places from s to below e; k gives the column of a place, w its weight
abbrev pub row_value : (A : Arithmetic) → (ℕ → ℕ) → (ℕ → A.Carrier) → (ℕ → ℕ → A.Carrier) → ℕ → ℕ → A.Carrier
row_value A k w Z s e = cross_value A k k w w Z s e s e

-- ---- operators

-- the column at p
abbrev pub term_column : List ℕ → ℕ → ℕ
term_column columns p = get_or columns p 0

-- the value of row i in f64
abbrev pub operator_value : List ℕ → List ℕ → List Float → (ℕ → ℕ → Float) → ℕ → Float
operator_value row_starts columns weights Z i =
    row_value floats (term_column columns) (value weights) Z (start row_starts i) (start row_starts (i + 1))

-- the values of all rows
unfoldable pub operator_values : List ℕ → List ℕ → List Float → (ℕ → ℕ → Float) → List Float
operator_values row_starts columns weights Z = tabulate (operator_value row_starts columns weights Z) (operator_rows row_starts)

-- the value of row i of one operator and row j of another in f64
abbrev pub row_pair_value : List ℕ → List ℕ → List Float → List ℕ → List ℕ → List Float → (ℕ → ℕ → Float) → ℕ → ℕ → Float
row_pair_value aStarts aColumns aWeights bStarts bColumns bWeights Z i j =
    cross_value floats (term_column aColumns) (term_column bColumns) (value aWeights) (value bWeights) Z (start aStarts i) (start aStarts (i + 1)) (start bStarts j) (start bStarts (j + 1))

-- the values of row pairs: row a_rows(p) of the one and row b_rows(p) of the other
unfoldable pub row_pair_values : List ℕ → List ℕ → List Float → List ℕ → List ℕ → List Float → List ℕ → List ℕ → (ℕ → ℕ → Float) → List Float
row_pair_values aStarts aColumns aWeights bStarts bColumns bWeights a_rows b_rows Z =
    tabulate (λ p. row_pair_value aStarts aColumns aWeights bStarts bColumns bWeights Z (get_or a_rows p 0) (get_or b_rows p 0)) (length a_rows)
