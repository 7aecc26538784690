-- The covariances of row pairs of two operators with a limit: what a call is handed, what it refuses in its order, what it answers and leaves.
-- Assumes nothing.
use Rattle.std.specs.Prelude.{ℕ, ◌≤◌, ◌<◌, not, List, [], ◌∷◌, ◌++◌, ltb, eqb, length, Float, Result}
use Rattle.std.proofs.Common.{subst, ltb-false, leb-false, eqb-true}
use Rattle.std.proofs.lemmas.Bool.{not-false}
use Rattle.lists.specs.Test.{any_below}
use Rattle.refusal.specs.Bounds.{max_entries, output_steps}
use Rattle.refusal.specs.Steps.{Step, Passed}
use Rattle.refusal.proofs.Steps.{passed_clear, passed_front, passed_back}
use Rattle.refusal.specs.Groups.{grouped, AllPassed}
use Rattle.refusal.proofs.Groups.{groups_passed}
use Rattle.columns.specs.Columns.{FactorLists, factor_lists, outside_at, outside, bound_steps}
use Rattle.columns.proofs.Factor.{bound_steps-sound}
use Rattle.columns.specs.Stored.{stored_steps}
use Rattle.columns.specs.Operator.{operator_rows, operator_bound_steps, operator_steps}
use Rattle.columns.proofs.Operator.{operator_steps-sound}
use Rattle.selection.specs.Selection.{Selection, selection, Lent, Room, room_of, fill_steps, selected_table, Accepted}
use Rattle.selection.proofs.Call.{fill_accepted}
use Rattle.request_marks.specs.CrossRequests.{cross_requested, OperatorPairs}
use Rattle.request_marks.proofs.CrossRequests.{cross_requested_ranged}
use Rattle.quadratic_form.specs.RowValue.{row_pair_values}
use Rattle.operator_values.specs.Output.{SelectedOutput}
use Rattle.refusal.specs.declared.Refusal.{Refusal}
use Rattle.diagnostics.specs.declared.SelectedInverseDiagnostics.{SelectedInverseDiagnostics}

-- an operator of `ncols` columns
pub record Operator : Type 0 where
  pub ncols : ℕ
  pub row_starts : List ℕ
  pub columns : List ℕ
  pub weights : List Float

-- what a call is handed to read: a factor, operators a and b in factor order, the rows of each row pair, and a limit
pub record CovarianceCall : Type 0 where
  pub factor : FactorLists Float
  pub a : Operator
  pub b : Operator
  pub a_rows : List ℕ
  pub b_rows : List ℕ
  pub limit : ℕ

abbrev pub operator : ℕ → List ℕ → List ℕ → List Float → Operator
operator ncols row_starts columns weights = record { ncols = ncols; row_starts = row_starts; columns = columns; weights = weights }

-- a call, from a function's parameters in their order
abbrev pub covariance_call : ℕ → List ℕ → List ℕ → List Float → Operator → Operator → List ℕ → List ℕ → ℕ → CovarianceCall
covariance_call n starts rows values a b a_rows b_rows limit = record { factor = factor_lists n starts rows values; a = a; b = b; a_rows = a_rows; b_rows = b_rows; limit = limit }

module _ (x : CovarianceCall) where
  -- the requests are every column of the one row with every column of the other, for each row pair
  abbrev pub covariance_selection : Selection
  covariance_selection =
      selection x.factor (cross_requested x.a.row_starts x.a.columns x.b.row_starts x.b.columns x.a_rows x.b_rows)
      x.limit

  -- 1: too many row pairs, counted by a's list
  abbrev pub pair_bound_steps : List Step
  pair_bound_steps = (1, ltb max_entries (length x.a_rows)) ∷ []

  -- 1 of the factor, of either operator and of the row pairs
  abbrev pub covariance_bounds : List Step
  covariance_bounds =
      bound_steps x.factor.n (length x.factor.rows) ++ (operator_bound_steps x.a.row_starts x.a.columns ++ (operator_bound_steps x.b.row_starts x.b.columns ++ pair_bound_steps))

  -- 4: an operator's columns are not n, or the row pairs' lists are of unequal length
  abbrev pub count_steps : List Step
  count_steps = (4, not (eqb x.a.ncols x.factor.n)) ∷ (4, not (eqb x.b.ncols x.factor.n)) ∷ (4, not (eqb (length x.a_rows) (length x.b_rows))) ∷ []

  -- 9: a row pair outside either operator
  abbrev pub row_steps : List Step
  row_steps = (9, outside (operator_rows x.a.row_starts) x.a_rows) ∷ (9, outside (operator_rows x.b.row_starts) x.b_rows) ∷ []

  -- 9 of either operator and of the row pairs
  abbrev pub operators_steps : List Step
  operators_steps =
      operator_steps x.factor.n x.a.row_starts x.a.columns (length x.a.weights) ++ (operator_steps x.factor.n x.b.row_starts x.b.columns (length x.b.weights) ++ row_steps)

  -- refusals 1; 2, 3, 18; 4; 9; 6, 7; 7 of an output of that length
  abbrev pub covariance_groups : Room → ℕ → List (List Step)
  covariance_groups lengths output =
      covariance_bounds
      ∷ stored_steps x.factor
      ∷ count_steps
      ∷ operators_steps
      ∷ fill_steps x.factor x.limit lengths
      ∷ output_steps (length x.a_rows) output
      ∷ []

  unfoldable pub covariance_steps : Room → ℕ → List Step
  covariance_steps lengths output = grouped (covariance_groups lengths output)

  -- the row pairs' values
  abbrev pub covariance_values : List Float
  covariance_values =
      row_pair_values x.a.row_starts x.a.columns x.a.weights x.b.row_starts x.b.columns x.b.weights x.a_rows x.b_rows (selected_table covariance_selection)

-- the reply and the lists of a call; either status carries the diagnosis
pub record Covariances (x : CovarianceCall) (lent : Lent) (output : List Float) (reply : Result SelectedInverseDiagnostics Refusal) (left : Lent) (out : List Float) : Type 0 where
  pub selected : SelectedOutput (covariance_steps x (room_of lent) (length output)) (covariance_selection x) (covariance_values x) lent output reply left out

-- ---- a call that passed

-- what it has
pub record AcceptedCovariances (x : CovarianceCall) (lengths : Room) (output : ℕ) : Type 0 where
  pub accepted : Accepted (covariance_selection x) lengths
  pub operators : OperatorPairs x.factor.n x.a.row_starts x.a.columns (length x.a.weights) x.b.row_starts x.b.columns (length x.b.weights) x.a_rows x.b_rows
  pub room : length x.a_rows ≤ output

module _ (x : CovarianceCall) (lengths : Room) (output : ℕ) (p : Passed (covariance_steps x lengths output)) where
  passed : AllPassed (covariance_groups x lengths output)
  unfolding covariance_steps
  passed = groups_passed (covariance_groups x lengths output) p

  abbrev a_steps : List Step
  a_steps = operator_steps x.factor.n x.a.row_starts x.a.columns (length x.a.weights)

  abbrev b_steps : List Step
  b_steps = operator_steps x.factor.n x.b.row_starts x.b.columns (length x.b.weights)

  pub covariance_accepted : AcceptedCovariances x lengths output
  covariance_accepted =
      let bounds = bound_steps x.factor.n (length x.factor.rows) in
      let B = bound_steps-sound x.factor.n (length x.factor.rows) (passed_front bounds _ passed.0) in
      let C = passed_clear (count_steps x) passed.1.1.0 in
      let nine = passed.1.1.1.0 in
      let later = passed_back a_steps (b_steps ++ row_steps x) nine in
      let R = passed_clear (row_steps x) (passed_back b_steps (row_steps x) later) in
      let O : OperatorPairs x.factor.n x.a.row_starts x.a.columns (length x.a.weights) x.b.row_starts x.b.columns (length x.b.weights) x.a_rows x.b_rows =
      record {
        first = operator_steps-sound x.factor.n x.a.row_starts x.a.columns (length x.a.weights) (passed_front a_steps _ nine);
        second = operator_steps-sound x.factor.n x.b.row_starts x.b.columns (length x.b.weights) (passed_front b_steps _ later);
        paired = eqb-true _ _ (not-false _ C.1.1.0);
        inside = λ q l. leb-false _ _ (any_below (outside_at (operator_rows x.a.row_starts) x.a_rows) (length x.a_rows) q R.0 l);
        inside₂ = λ q l.
            leb-false _ _ (any_below (outside_at (operator_rows x.b.row_starts) x.b_rows) (length x.b_rows) q R.1.0
            (subst (λ (m : ℕ). q < m) (eqb-true _ _ (not-false _ C.1.1.0)) l));
      } in
      record {
        accepted = fill_accepted (covariance_selection x) lengths B passed.1.0 (cross_requested_ranged O) passed.1.1.1.1.0;
        operators = O;
        room = ltb-false _ _ (passed_clear (output_steps (length x.a_rows) output) passed.1.1.1.1.1.0).0;
      }
