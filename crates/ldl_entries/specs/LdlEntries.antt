-- Selected entries of a factor given as L, D, L transposed: what the call replies and leaves.
-- Assumes nothing.
use Rattle.std.specs.Prelude.{◌≡◌, Result}
use Rattle.selection.specs.Selection.{Lent, room_of, ResultLists, filling_of}
use Rattle.selection.specs.LdlCall.{LdlCall, ldl_selection, ldl_steps, ldl_reply}
use Rattle.refusal.specs.declared.Refusal.{Refusal}
use Rattle.diagnostics.specs.declared.SelectedInverseDiagnostics.{SelectedInverseDiagnostics}
use Rattle.refusal.specs.Refusal.{reply_of}

-- the reply and the lists of a call
pub record LdlEntries (x : LdlCall) (lent : Lent) (reply : Result SelectedInverseDiagnostics Refusal) (left : Lent) : Type 0 where
  pub replies : reply_of reply ≡ ldl_reply x lent
  pub lists_are : ResultLists (ldl_steps x (room_of lent)) (filling_of (ldl_selection x)) lent left
