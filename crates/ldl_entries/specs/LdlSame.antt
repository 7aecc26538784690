-- Both families together: calls of one dimension, with equal descendants in each column and equal requests and limit, that both pass their checks, give equal
-- status and counts and, when Complete, equal starts and filled rows; two calls with pivots, or one with pivots and one with L * Lᵀ.
-- Assumes nothing.
use Rattle.std.specs.Prelude.{ℕ, ◌<◌, ◌≡◌, List, Float, Result}
use Rattle.refusal.specs.Steps.{Passed}
use Rattle.columns.specs.Kept.{nonzero, pattern}
use Rattle.columns.specs.Form.{cholesky, pivoted}
use Rattle.closed_set.specs.Requests.{requested}
use Rattle.selection.specs.Selection.{Lent, room_of, ResultLists, filling_of}
use Rattle.selection.specs.Call.{Call, call, selection_of, selected_steps}
use Rattle.selection.proofs.Call.{accepted}
use Rattle.selection.specs.LdlCall.{LdlCall, ldl_call, ldl_steps}
use Rattle.selection.proofs.LdlCall.{ldl_accepted}
use Rattle.selection.specs.SamePositions.{SameLists}
use Rattle.selection.proofs.SamePositions.{same_lists}
use Rattle.ldl_entries.specs.LdlEntries.{LdlEntries}
use Rattle.refusal.specs.declared.Refusal.{Refusal}
use Rattle.diagnostics.specs.declared.SelectedInverseDiagnostics.{SelectedInverseDiagnostics}

module _ (n dimension limit : ℕ) (request_rows request_columns starts rows : List ℕ) (values pivots : List Float) (starts' rows' : List ℕ) (values' : List Float)
    (same : (c : ℕ) → c < n → pattern starts rows (nonzero values) c ≡ pattern starts' rows' (nonzero values') c) (lent lent' : Lent) where
  abbrev one : LdlCall
  one = ldl_call n starts rows values pivots dimension request_rows request_columns limit

  abbrev other : List Float → LdlCall
  other pivots' = ldl_call n starts' rows' values' pivots' dimension request_rows request_columns limit

  abbrev plain : Call
  plain = call n starts' rows' values' dimension request_rows request_columns limit

  -- two calls with pivots
  pub pivots_same : (pivots' : List Float) {reply reply' : Result SelectedInverseDiagnostics Refusal} {left left' : Lent}
      → Passed (ldl_steps one (room_of lent)) → Passed (ldl_steps (other pivots') (room_of lent'))
      → LdlEntries one lent reply left → LdlEntries (other pivots') lent' reply' left'
      → SameLists n limit (requested request_rows request_columns) (pivoted pivots) starts rows values (pivoted pivots') starts' rows' values' left left'
  pivots_same pivots' p p' C C' =
      same_lists n limit (requested request_rows request_columns) (pivoted pivots) starts rows values (pivoted pivots') starts' rows' values' lent lent'
      (ldl_accepted one (room_of lent) p) (ldl_accepted (other pivots') (room_of lent') p') same (ldl_steps one (room_of lent))
      (ldl_steps (other pivots') (room_of lent')) p p' C.lists_are C'.lists_are

  -- one with pivots, one with L * Lᵀ
  pub families_same : {reply : Result SelectedInverseDiagnostics Refusal} {left left' : Lent}
      → Passed (ldl_steps one (room_of lent)) → Passed (selected_steps plain (room_of lent')) → LdlEntries one lent reply left
      → ResultLists (selected_steps plain (room_of lent')) (filling_of (selection_of plain)) lent' left'
      → SameLists n limit (requested request_rows request_columns) (pivoted pivots) starts rows values cholesky starts' rows' values' left left'
  families_same p p' C L' =
      same_lists n limit (requested request_rows request_columns) (pivoted pivots) starts rows values cholesky starts' rows' values' lent lent'
      (ldl_accepted one (room_of lent) p) (accepted plain (room_of lent') p') same (ldl_steps one (room_of lent)) (selected_steps plain (room_of lent')) p p'
      C.lists_are L'
