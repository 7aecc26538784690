-- A sparse operator, in row starts, columns and weights, and what is refused of it: steps 1 and 9.
-- Assumes nothing.
use Rattle.std.specs.Prelude.{ℕ, ◌-◌, ◌<◌, ◌≡◌, List, [], ◌∷◌, ◌++◌, eqb, get_or}
use Rattle.std.proofs.Math.ListN.{length}
use Rattle.refusal.specs.Steps.{Step}
use Rattle.columns.specs.Columns.{outside, bound_steps, broken_steps}
use Rattle.columns.specs.Factor.{Starts}

-- the number of rows
abbrev pub operator_rows : List ℕ → ℕ
operator_rows row_starts = length row_starts - 1

-- 1: too many rows or terms; terms are counted by the columns
abbrev pub operator_bound_steps : List ℕ → List ℕ → List Step
operator_bound_steps row_starts columns = bound_steps (operator_rows row_starts) (length columns)

-- 9, last part: a column of `ncols` or more
abbrev pub column_step : ℕ → List ℕ → List Step
column_step ncols columns = (9, outside ncols columns) ∷ []

-- 9: row starts empty or broken as in 2, or a column of `ncols` or more; `weights` is the number of weights
unfoldable pub operator_steps : ℕ → List ℕ → List ℕ → ℕ → List Step
operator_steps ncols row_starts columns weights =
    (9, eqb (length row_starts) 0) ∷ broken_steps 9 (operator_rows row_starts) row_starts (length columns) weights ++ column_step ncols columns

-- past 9: rows of terms, each with a column below `ncols` and a weight
pub record OperatorRows (ncols : ℕ) (row_starts columns : List ℕ) (weights : ℕ) : Type 0 where
  pub starts_rise : Starts (operator_rows row_starts) row_starts columns
  pub inside : (p : ℕ) → p < length columns → get_or columns p 0 < ncols
  pub weighed : weights ≡ length columns
