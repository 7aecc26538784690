-- The variances of an operator's rows with a limit: what a call is handed, what it refuses in its order, what it answers and leaves.
-- Assumes nothing.
use Rattle.std.specs.Prelude.{ℕ, ◌≤◌, not, List, [], ◌∷◌, ◌++◌, eqb, length, Float, Result}
use Rattle.std.proofs.Common.{ltb-false}
use Rattle.refusal.specs.Bounds.{output_steps}
use Rattle.refusal.specs.Steps.{Step, Passed}
use Rattle.refusal.proofs.Steps.{passed_clear, passed_front}
use Rattle.refusal.specs.Groups.{grouped, AllPassed}
use Rattle.refusal.proofs.Groups.{groups_passed}
use Rattle.columns.specs.Columns.{FactorLists, factor_lists, bound_steps}
use Rattle.columns.proofs.Factor.{bound_steps-sound}
use Rattle.columns.specs.Stored.{stored_steps}
use Rattle.columns.specs.Operator.{operator_rows, operator_bound_steps, operator_steps, OperatorRows}
use Rattle.columns.proofs.Operator.{operator_steps-sound}
use Rattle.selection.specs.Selection.{Selection, selection, Lent, Room, room_of, fill_steps, selected_table, Accepted}
use Rattle.selection.proofs.Call.{fill_accepted}
use Rattle.request_marks.specs.OperatorRequests.{operator_requested}
use Rattle.request_marks.proofs.OperatorRequests.{operator_requested_ranged}
use Rattle.quadratic_form.specs.RowValue.{operator_values}
use Rattle.operator_values.specs.Output.{SelectedOutput}
use Rattle.refusal.specs.declared.Refusal.{Refusal}
use Rattle.diagnostics.specs.declared.SelectedInverseDiagnostics.{SelectedInverseDiagnostics}

-- what a call is handed to read: a factor, an operator of `ncols` columns, in factor order, and a limit
pub record TransformedCall : Type 0 where
  pub factor : FactorLists Float
  pub ncols : ℕ
  pub row_starts : List ℕ
  pub columns : List ℕ
  pub weights : List Float
  pub limit : ℕ

-- a call, from a function's parameters in their order
abbrev pub transformed_call : ℕ → List ℕ → List ℕ → List Float → ℕ → List ℕ → List ℕ → List Float → ℕ → TransformedCall
transformed_call n starts rows values ncols row_starts columns weights limit = record {
  factor = factor_lists n starts rows values;
  ncols = ncols;
  row_starts = row_starts;
  columns = columns;
  weights = weights;
  limit = limit;
}

module _ (x : TransformedCall) where
  -- the requests are all column pairs of each row
  abbrev pub transformed_selection : Selection
  transformed_selection = selection x.factor (operator_requested x.row_starts x.columns) x.limit

  -- 4: the operator's columns are not n
  abbrev pub column_count_steps : List Step
  column_count_steps = (4, not (eqb x.ncols x.factor.n)) ∷ []

  -- refusals 1 of the factor and of the operator; 2, 3, 18; 4; 9; 6, 7; 7 of an output of that length
  abbrev pub transformed_groups : Room → ℕ → List (List Step)
  transformed_groups lengths output =
      (bound_steps x.factor.n (length x.factor.rows) ++ operator_bound_steps x.row_starts x.columns)
      ∷ stored_steps x.factor
      ∷ column_count_steps
      ∷ operator_steps x.factor.n x.row_starts x.columns (length x.weights)
      ∷ fill_steps x.factor x.limit lengths
      ∷ output_steps (operator_rows x.row_starts) output
      ∷ []

  unfoldable pub transformed_steps : Room → ℕ → List Step
  transformed_steps lengths output = grouped (transformed_groups lengths output)

  -- the rows' values
  abbrev pub transformed_values : List Float
  transformed_values = operator_values x.row_starts x.columns x.weights (selected_table transformed_selection)

-- the reply and the lists of a call; either status carries the diagnosis
pub record TransformedDiagonal (x : TransformedCall) (lent : Lent) (output : List Float) (reply : Result SelectedInverseDiagnostics Refusal) (left : Lent) (out : List Float) : Type 0 where
  pub selected : SelectedOutput (transformed_steps x (room_of lent) (length output)) (transformed_selection x) (transformed_values x) lent output reply left out

-- ---- a call that passed

-- what it has
pub record AcceptedTransformed (x : TransformedCall) (lengths : Room) (output : ℕ) : Type 0 where
  pub accepted : Accepted (transformed_selection x) lengths
  pub operator : OperatorRows x.factor.n x.row_starts x.columns (length x.weights)
  pub room : operator_rows x.row_starts ≤ output

module _ (x : TransformedCall) (lengths : Room) (output : ℕ) (p : Passed (transformed_steps x lengths output)) where
  passed : AllPassed (transformed_groups x lengths output)
  unfolding transformed_steps
  passed = groups_passed (transformed_groups x lengths output) p

  pub transformed_accepted : AcceptedTransformed x lengths output
  transformed_accepted =
      let bounds = bound_steps x.factor.n (length x.factor.rows) in
      let B = bound_steps-sound x.factor.n (length x.factor.rows) (passed_front bounds (operator_bound_steps x.row_starts x.columns) passed.0) in
      let O = operator_steps-sound x.factor.n x.row_starts x.columns (length x.weights) passed.1.1.1.0 in
      record {
        accepted = fill_accepted (transformed_selection x) lengths B passed.1.0 (operator_requested_ranged O) passed.1.1.1.1.0;
        operator = O;
        room = ltb-false _ _ (passed_clear (output_steps (operator_rows x.row_starts) output) passed.1.1.1.1.1.0).0;
      }
