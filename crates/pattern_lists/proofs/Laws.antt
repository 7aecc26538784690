-- What an operator that passes 1 and 9 has.
-- Assumes nothing.
use Rattle.std.specs.Prelude.{ℕ, ◌≤◌, List, [], ◌∷◌, ◌++◌, length}
use Rattle.std.proofs.Math.Path.{subst}
use Rattle.std.proofs.Math.Dec.{ltb}
use borrow.Author.Tests.{ltb-false}
use Rattle.refusal.specs.Bounds.{max_dimension}
use Rattle.refusal.specs.Steps.{Passed}
use Rattle.refusal.proofs.Steps.{passed_clear, passed_front, passed_back}
use Rattle.columns.specs.Operator.{operator_bound_steps, operator_steps, OperatorRows}
use Rattle.columns.proofs.Operator.{operator_steps-sound}
use Rattle.pattern_lists.specs.PatternCalls.{operator_checks}

module _ (ncols : ℕ) (row_starts columns : List ℕ) (weights : ℕ) (p : Passed (operator_checks ncols row_starts columns weights)) where
  pub operator_checks_small : ncols ≤ max_dimension
  unfolding operator_checks
  operator_checks_small = ltb-false _ _ (passed_clear ((1, ltb max_dimension ncols) ∷ []) (passed_front ((1, ltb max_dimension ncols) ∷ []) (operator_bound_steps row_starts columns ++ operator_steps ncols row_starts columns weights) p)).0

  pub operator_checks-sound : OperatorRows ncols row_starts columns (length columns)
  unfolding operator_checks
  operator_checks-sound =
      let O = operator_steps-sound ncols row_starts columns weights (passed_back (operator_bound_steps row_starts columns) (operator_steps ncols row_starts columns weights) (passed_back ((1, ltb max_dimension ncols) ∷ []) (operator_bound_steps row_starts columns ++ operator_steps ncols row_starts columns weights) p)) in
      subst (OperatorRows ncols row_starts columns) O.weighed O
