-- Selected entries: what the call replies and leaves.
-- Assumes nothing.
use Rattle.std.specs.Prelude.{◌≡◌, Result}
use Rattle.selection.specs.Selection.{Lent, room_of, ResultLists, filling_of}
use Rattle.selection.specs.Call.{Call, selection_of, selected_steps, selected_reply}
use Rattle.refusal.specs.declared.Refusal.{Refusal}
use Rattle.diagnostics.specs.declared.SelectedInverseDiagnostics.{SelectedInverseDiagnostics}
use Rattle.refusal.specs.Refusal.{reply_of}

-- the reply and the lists of a call
pub record SelectedEntries (x : Call) (lent : Lent) (reply : Result SelectedInverseDiagnostics Refusal) (left : Lent) : Type 0 where
  pub replies : reply_of reply ≡ selected_reply x lent
  pub lists_are : ResultLists (selected_steps x (room_of lent)) (filling_of (selection_of x)) lent left
