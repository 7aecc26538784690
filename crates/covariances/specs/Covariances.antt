-- The covariances of row pairs of two operators: what a call is handed, what it refuses in its order, what it answers and leaves. All is as of a call that gives
-- the default limit.
-- Assumes nothing.
use Rattle.std.specs.Prelude.{ℕ, List, length, Float, Result}
use Rattle.refusal.specs.Steps.{Step}
use Rattle.columns.specs.Columns.{FactorLists, factor_lists}
use Rattle.selection.specs.Selection.{Selection, Lent, Room, room_of, default_limit}
use Rattle.operator_values.specs.Output.{SelectedOutput}
use Rattle.covariances_with_limit.specs.Covariances as general
pub use Rattle.covariances_with_limit.specs.Covariances.{Operator, operator}
use Rattle.refusal.specs.declared.Refusal.{Refusal}
use Rattle.diagnostics.specs.declared.SelectedInverseDiagnostics.{SelectedInverseDiagnostics}

-- what a call is handed to read: a factor, operators a and b in factor order, and the rows of each row pair
pub record CovarianceCall : Type 0 where
  pub factor : FactorLists Float
  pub a : Operator
  pub b : Operator
  pub a_rows : List ℕ
  pub b_rows : List ℕ

-- a call, from a function's parameters in their order
abbrev pub covariance_call : ℕ → List ℕ → List ℕ → List Float → Operator → Operator → List ℕ → List ℕ → CovarianceCall
covariance_call n starts rows values a b a_rows b_rows = record { factor = factor_lists n starts rows values; a = a; b = b; a_rows = a_rows; b_rows = b_rows }

-- the same call with the default limit
abbrev pub with_default : CovarianceCall → general.CovarianceCall
with_default x = record { factor = x.factor; a = x.a; b = x.b; a_rows = x.a_rows; b_rows = x.b_rows; limit = default_limit x.factor.rows }

module _ (x : CovarianceCall) where
  -- the requests are every column of the one row with every column of the other, for each row pair; the limit is the default one
  abbrev pub covariance_selection : Selection
  covariance_selection = general.covariance_selection (with_default x)

  -- 1 of the factor, of either operator and of the row pairs
  abbrev pub covariance_bounds : List Step
  covariance_bounds = general.covariance_bounds (with_default x)

  abbrev pub covariance_steps : Room → ℕ → List Step
  covariance_steps = general.covariance_steps (with_default x)

  -- the row pairs' values
  abbrev pub covariance_values : List Float
  covariance_values = general.covariance_values (with_default x)

-- the reply and the lists of a call; either status carries the diagnosis
abbrev pub Covariances : CovarianceCall → Lent → List Float → Result SelectedInverseDiagnostics Refusal → Lent → List Float → Type 0
Covariances x lent output = SelectedOutput (covariance_steps x (room_of lent) (length output)) (covariance_selection x) (covariance_values x) lent output

-- ---- a call that passed

-- what it has
abbrev pub AcceptedCovariances : CovarianceCall → Room → ℕ → Type 0
AcceptedCovariances x = general.AcceptedCovariances (with_default x)
