-- Laws of specs/Operator.antt.
use Rattle.std.specs.Prelude.{ℕ, ◌-◌, ◌≡◌, List, [], ◌∷◌, ◌++◌, eqb}
use Rattle.std.proofs.Common.{arith}
use Rattle.std.proofs.Math.ListN.{length}
use borrow.Author.Tests.{leb-false, eqb-false, lt-leb, ne_eqb}
use Rattle.lists.specs.Test.{any_below, any_all}
use Rattle.refusal.specs.Steps.{Step, Passed}
use Rattle.refusal.proofs.Steps.{passed_clear, clear_passed, passed_append, passed_front, passed_back}
use Rattle.columns.specs.Columns.{outside_at, broken_steps}
use Rattle.columns.specs.Factor.{Unbroken}
use Rattle.columns.proofs.Factor.{broken_steps-sound, broken_steps_passed}
use Rattle.columns.specs.Operator.{operator_rows, column_step, operator_steps, OperatorRows}

-- ---- the steps pass exactly if the record holds
module _ (ncols : ℕ) (row_starts columns : List ℕ) (weights : ℕ) where
  abbrev front : List Step
  front = (9, eqb (length row_starts) 0) ∷ []

  abbrev middle : List Step
  middle = broken_steps 9 (operator_rows row_starts) row_starts (length columns) weights

  pub operator_steps-sound : Passed (operator_steps ncols row_starts columns weights) → OperatorRows ncols row_starts columns weights
  unfolding operator_steps
  operator_steps-sound e =
      let some : length row_starts ≡ 0 → ⊥ = eqb-false _ _ (passed_clear front (passed_front front (middle ++ column_step ncols columns) e)).0 in
      let later = passed_back front (middle ++ column_step ncols columns) e in
      let U = broken_steps-sound 9 (operator_rows row_starts) row_starts (length columns) weights (passed_front middle (column_step ncols columns) later) in
      let last = (passed_clear (column_step ncols columns) (passed_back middle (column_step ncols columns) later)).0 in
      record {
        starts_rise = record { columns = omega arith; zero = U.zero; rising = U.rising; last = U.last };
        inside = λ p l. leb-false _ _ (any_below (outside_at ncols columns) (length columns) p last l);
        weighed = U.valued;
      }

  pub operator_steps_passed : OperatorRows ncols row_starts columns weights → Passed (operator_steps ncols row_starts columns weights)
  unfolding operator_steps
  operator_steps_passed O =
      let S = O.starts_rise in
      let some : length row_starts ≡ 0 → ⊥ = λ z. omega (arith, S.columns) in
      let U : Unbroken (operator_rows row_starts) row_starts (length columns) weights =
      record { zero = S.zero; rising = S.rising; last = S.last; valued = O.weighed } in
      passed_append front (middle ++ column_step ncols columns)
      (clear_passed front (ne_eqb _ _ some, tt))
      (passed_append middle (column_step ncols columns)
      (broken_steps_passed 9 (operator_rows row_starts) row_starts (length columns) weights U)
      (clear_passed (column_step ncols columns) (any_all (outside_at ncols columns) (length columns) (λ p l. lt-leb _ _ (O.inside p l)), tt)))
