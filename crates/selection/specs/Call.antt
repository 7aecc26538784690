-- Selected entries: what a call is handed, and what it refuses in its order.
-- Assumes nothing.
use Rattle.std.specs.Prelude.{ℕ, ◌+◌, ◌≤◌, min, List, [], ◌∷◌, ◌++◌, length, Float}
use Rattle.refusal.specs.Steps.{Step, Reply, first}
use Rattle.refusal.specs.Groups.{grouped}
use Rattle.pairs.specs.Pair.{pair_total}
use Rattle.columns.specs.Columns.{FactorLists, factor_lists, bound_steps}
use Rattle.columns.specs.Stored.{stored_steps}
use Rattle.closed_set.specs.Requests.{requested}
use Rattle.selection.specs.RequestSteps.{request_bound_steps, request_steps}
use Rattle.diagnostics.specs.declared.SelectedInverseDiagnostics.{SelectedInverseDiagnostics}
use Rattle.selection.specs.Selection.{Selection, selection, Lent, Room, room_of, scratch_words, fill_steps, selected_answer}

-- what a call is handed to read: a factor, two lists of requests with their dimension, and a limit
pub record Call : Type 0 where
  pub factor : FactorLists Float
  pub dimension : ℕ
  pub request_rows : List ℕ
  pub request_columns : List ℕ
  pub limit : ℕ

-- a call, from a function's parameters in their order
abbrev pub call : ℕ → List ℕ → List ℕ → List Float → ℕ → List ℕ → List ℕ → ℕ → Call
call n starts rows values dimension request_rows request_columns limit = record {
  factor = factor_lists n starts rows values;
  dimension = dimension;
  request_rows = request_rows;
  request_columns = request_columns;
  limit = limit;
}

module _ (x : Call) where
  -- the requests as a set of pairs
  abbrev pub selection_of : Selection
  selection_of = selection x.factor (requested x.request_rows x.request_columns) x.limit

  -- refusals 1 to 7 and 18: 1 of the factor and of the requests; 2, 3 and 18; 4 and 5; 6 and 7
  abbrev pub selected_groups : Room → List (List Step)
  selected_groups lengths =
      (bound_steps x.factor.n (length x.factor.rows) ++ request_bound_steps (length x.request_rows))
      ∷ stored_steps x.factor
      ∷ request_steps x.factor.n x.dimension x.request_rows x.request_columns
      ∷ fill_steps x.factor x.limit lengths
      ∷ []

  unfoldable pub selected_steps : Room → List Step
  selected_steps lengths = grouped (selected_groups lengths)

  -- the reply
  abbrev pub selected_reply : Lent → Reply SelectedInverseDiagnostics
  selected_reply lent = first (selected_steps (room_of lent)) (selected_answer selection_of)

-- ---- calls that pass

-- what the steps of 7 tell
pub record EnoughRoom (n limit : ℕ) (lengths : Room) : Type 0 where
  pub starts_room : n + 1 ≤ lengths.result_starts
  pub rows_room : min limit (pair_total n) ≤ lengths.result_rows
  pub values_room : min limit (pair_total n) ≤ lengths.result_values
  pub scratch_room : scratch_words n ≤ lengths.scratch
