-- The pairs of an operator: two columns of one of its rows.
-- Assumes nothing.
use Rattle.std.specs.Prelude.{ℕ, ◌+◌, Bool, ◌&&◌, List, eqb, get_or}
use Rattle.lists.specs.Test.{any, any_in}
use Rattle.columns.specs.Columns.{start}
use Rattle.columns.specs.Operator.{operator_rows}

-- k is among the operator's columns from s to below e
abbrev pub occurs : List ℕ → ℕ → ℕ → ℕ → Bool
occurs columns s e k = any_in (λ p. eqb (get_or columns p 0) k) s e

-- r and c are columns of row i of the operator
abbrev pub row_pair : List ℕ → List ℕ → ℕ → ℕ → ℕ → Bool
row_pair row_starts columns r c i =
    occurs columns (start row_starts i) (start row_starts (i + 1)) r && occurs columns (start row_starts i) (start row_starts (i + 1)) c

-- (r, c) is a pair of columns of one row of the operator
unfoldable pub operator_pair : List ℕ → List ℕ → ℕ → ℕ → Bool
operator_pair row_starts columns r c = any (row_pair row_starts columns r c) (operator_rows row_starts)
