-- The reply and the lists of a call, refused or answered.
-- Assumes nothing.
use Prim.Native.Nat.{◌<◌}
use mathlib.Core.Path.{◌≡◌, refl, sym, ap, ◌∙◌}
use mathlib.Core.Bool.{Bool, true, false}
use mathlib.Core.List.{List, ◌++◌}
use lib.ListN.{length}
use lib.Dec.{ltb}
use borrow.Author.Tests.{lt-ltb}
use Rattle.refusal.specs.Steps.{Step, answered, refused, verdict, Passed}
use Rattle.refusal.proofs.Steps.{first_refused, first_passed, append-refused, first_hit, first_skip}
use Rattle.refusal.specs.Refusal.{refusal_number}
use Rattle.refusal.specs.declared.Refusal.{Refusal}
use Rattle.refusal.specs.Bounds.{max_dimension, max_entries}
use Rattle.columns.specs.Columns.{bound_steps}
use Rattle.diagnostics.specs.declared.SelectedInverseDiagnostics.{SelectedInverseDiagnostics}
use Rattle.selection.specs.Selection.{Lent, room_of, selected_answer, filling_of, ResultLists}
use Rattle.selection.proofs.Selection.{lists_refused}
use Rattle.selection.specs.RequestSteps.{request_bound_steps}
use Rattle.selection.specs.Call.{Call, selection_of, selected_steps}
use Rattle.selected.specs.Selected.{SelectedEntries}
use Rattle.std.specs.Prelude.{Ok, Err}

module _ (x : Call) (lent : Lent) where
  abbrev steps : List Step
  steps = selected_steps x (room_of lent)

  pub entries_refused : {why : Refusal} → verdict steps ≡ refused (refusal_number why)
      → SelectedEntries x lent (Err why) lent
  entries_refused e = record { replies = sym (first_refused steps _ _ e); lists_are = lists_refused steps (filling_of (selection_of x)) lent e }

  pub entries_answered : Passed steps → {d : SelectedInverseDiagnostics} {left : Lent} → d ≡ selected_answer (selection_of x)
      → ResultLists steps (filling_of (selection_of x)) lent left → SelectedEntries x lent (Ok d) left
  entries_answered p e L = record { replies = ap (λ (y : SelectedInverseDiagnostics). answered y) e ∙ sym (first_passed steps _ p); lists_are = L }

  -- more stored entries than the bound are refused whatever the limit
  pub too_many : max_entries < length x.factor.rows → verdict steps ≡ refused 1
  unfolding selected_steps bound_steps
  too_many h =
      append-refused (bound_steps x.factor.n (length x.factor.rows) ++ request_bound_steps (length x.request_rows)) _ 1 tt
      (append-refused (bound_steps x.factor.n (length x.factor.rows)) (request_bound_steps (length x.request_rows)) 1 tt (go (ltb max_dimension x.factor.n) refl))
    where
      go : (b : Bool) → ltb max_dimension x.factor.n ≡ b → verdict (bound_steps x.factor.n (length x.factor.rows)) ≡ refused 1
      go true e = first_hit 1 _ _ e
      go false e = first_skip 1 _ _ e (first_hit 1 _ _ (lt-ltb max_entries (length x.factor.rows) h))
