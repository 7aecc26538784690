-- Selected entries of a factor given as L, D, L transposed: what a call is handed, what it refuses in document 02's order, and what passes.
-- Assumes nothing.
use Rattle.std.specs.Prelude.{ℕ, List, [], ◌∷◌, ◌++◌, length, Float}
use Rattle.refusal.specs.Steps.{Step, Reply, first}
use Rattle.refusal.specs.Groups.{grouped}
use Rattle.columns.specs.Columns.{FactorLists, factor_lists, bound_steps}
use Rattle.columns.specs.Kept.{nonzero}
use Rattle.columns.specs.Form.{pivoted}
use Rattle.columns.specs.Pivots.{float_one, pivot_list_steps, pivot_steps}
use Rattle.columns.specs.UnitDiagonals.{unit_steps}
use Rattle.columns.specs.Stored.{stored_steps}
use Rattle.closed_set.specs.Requests.{requested}
use Rattle.diagnostics.specs.declared.SelectedInverseDiagnostics.{SelectedInverseDiagnostics}
use Rattle.selection.specs.RequestSteps.{request_bound_steps, request_steps}
use Rattle.selection.specs.Selection.{Selection, selecting, Lent, Room, room_of, room_steps, selected_answer}

-- what a call is handed to read: a factor and its pivots, two lists of requests with their dimension, and a limit
pub record LdlCall : Type 0 where
  pub factor : FactorLists Float
  pub pivots : List Float
  pub dimension : ℕ
  pub request_rows : List ℕ
  pub request_columns : List ℕ
  pub limit : ℕ

-- a call, from a function's parameters in their order
abbrev pub ldl_call : ℕ → List ℕ → List ℕ → List Float → List Float → ℕ → List ℕ → List ℕ → ℕ → LdlCall
ldl_call n starts rows values pivots dimension request_rows request_columns limit = record {
  factor = factor_lists n starts rows values;
  pivots = pivots;
  dimension = dimension;
  request_rows = request_rows;
  request_columns = request_columns;
  limit = limit;
}

-- 23: a kept diagonal other than 1, in any column
abbrev pub ldl_unit_steps : FactorLists Float → List Step
ldl_unit_steps f = unit_steps 23 f.n f.starts f.rows (nonzero f.values) (float_one f.values)

-- what filling result lists asks: 23, then 6 of the pivots, then 7
abbrev pub ldl_fill_steps : FactorLists Float → List Float → ℕ → Room → List Step
ldl_fill_steps f pivots limit lengths = ldl_unit_steps f ++ (pivot_steps f.n pivots ++ room_steps f.n limit lengths)

module _ (x : LdlCall) where
  -- the requests as a set of pairs
  abbrev pub ldl_selection : Selection
  ldl_selection = selecting (pivoted x.pivots) x.factor (requested x.request_rows x.request_columns) x.limit

  -- 1 of the factor and of the requests; 2, 3 and 18; 4 and 18 of the pivots; 4 and 5; 23, 6 and 7
  abbrev pub ldl_groups : Room → List (List Step)
  ldl_groups lengths =
      (bound_steps x.factor.n (length x.factor.rows) ++ request_bound_steps (length x.request_rows))
      ∷ stored_steps x.factor
      ∷ pivot_list_steps x.factor.n x.pivots
      ∷ request_steps x.factor.n x.dimension x.request_rows x.request_columns
      ∷ ldl_fill_steps x.factor x.pivots x.limit lengths
      ∷ []

  unfoldable pub ldl_steps : Room → List Step
  ldl_steps lengths = grouped (ldl_groups lengths)

  -- the reply
  abbrev pub ldl_reply : Lent → Reply SelectedInverseDiagnostics
  ldl_reply lent = first (ldl_steps (room_of lent)) (selected_answer ldl_selection)
