-- What the pattern lists refuse of an operator.
-- Assumes nothing.
use Rattle.std.specs.Prelude.{ℕ, List, ◌∷◌, ◌++◌, ltb}
use Rattle.refusal.specs.Steps.{Step}
use Rattle.refusal.specs.Bounds.{max_dimension}
use Rattle.columns.specs.Operator.{operator_bound_steps, operator_steps}

-- 1 and 9 of an operator of `ncols` columns
unfoldable pub operator_checks : ℕ → List ℕ → List ℕ → ℕ → List Step
operator_checks ncols row_starts columns weights =
    (1, ltb max_dimension ncols) ∷ operator_bound_steps row_starts columns ++ operator_steps ncols row_starts columns weights
