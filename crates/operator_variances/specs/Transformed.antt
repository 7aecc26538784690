-- The variances of an operator's rows: what a call is handed, what it refuses in its order, what it answers and leaves. All is as of a call that gives the
-- default limit.
-- Assumes nothing.
use Rattle.std.specs.Prelude.{ℕ, List, length, Float, Result}
use Rattle.refusal.specs.Steps.{Step}
use Rattle.columns.specs.Columns.{FactorLists, factor_lists}
use Rattle.selection.specs.Selection.{Selection, Lent, Room, room_of, default_limit}
use Rattle.operator_values.specs.Output.{SelectedOutput}
use Rattle.refusal.specs.declared.Refusal.{Refusal}
use Rattle.diagnostics.specs.declared.SelectedInverseDiagnostics.{SelectedInverseDiagnostics}
use Rattle.operator_variances_with_limit.specs.Transformed as general

-- what a call is handed to read: a factor and an operator of `ncols` columns, in factor order
pub record TransformedCall : Type 0 where
  pub factor : FactorLists Float
  pub ncols : ℕ
  pub row_starts : List ℕ
  pub columns : List ℕ
  pub weights : List Float

-- a call, from a function's parameters in their order
abbrev pub transformed_call : ℕ → List ℕ → List ℕ → List Float → ℕ → List ℕ → List ℕ → List Float → TransformedCall
transformed_call n starts rows values ncols row_starts columns weights = record {
  factor = factor_lists n starts rows values;
  ncols = ncols;
  row_starts = row_starts;
  columns = columns;
  weights = weights;
}

-- the same call with the default limit
abbrev pub with_default : TransformedCall → general.TransformedCall
with_default x = record {
  factor = x.factor;
  ncols = x.ncols;
  row_starts = x.row_starts;
  columns = x.columns;
  weights = x.weights;
  limit = default_limit x.factor.rows;
}

module _ (x : TransformedCall) where
  -- the requests are all column pairs of each row, the limit is the default one
  abbrev pub transformed_selection : Selection
  transformed_selection = general.transformed_selection (with_default x)

  abbrev pub transformed_steps : Room → ℕ → List Step
  transformed_steps = general.transformed_steps (with_default x)

  -- the rows' values
  abbrev pub transformed_values : List Float
  transformed_values = general.transformed_values (with_default x)

-- the reply and the lists of a call; either status carries the diagnosis
abbrev pub TransformedDiagonal : TransformedCall → Lent → List Float → Result SelectedInverseDiagnostics Refusal → Lent → List Float → Type 0
TransformedDiagonal x lent output = SelectedOutput (transformed_steps x (room_of lent) (length output)) (transformed_selection x) (transformed_values x) lent output

-- ---- a call that passed

-- what it has
abbrev pub AcceptedTransformed : TransformedCall → Room → ℕ → Type 0
AcceptedTransformed x = general.AcceptedTransformed (with_default x)
