-- The exact case of a reply, in whole numbers and beyond unit diagonals: a call that answers gives the diagnosis, and the exact inverse is what reads back.
-- Assumes nothing.
use Rattle.std.specs.Prelude.{ℕ, ◌^◌, ◌≡◌, List, ℤ, pos, Result}
use Rattle.std.proofs.Common.{sym, ◌∙◌}
use Rattle.refusal.specs.Steps.{Step, answered, Passed}
use Rattle.refusal.proofs.Steps.{first_passed}
use Rattle.refusal.proofs.Told.{told_passed, told_answer}
use Rattle.diagnostics.specs.declared.SelectedInverseDiagnostics.{SelectedInverseDiagnostics}
use Rattle.integers.specs.Matrix.{Matrix}
use Rattle.integers.specs.Inverse.{Inverse, WholeInverse}
use Rattle.takahashi.specs.Entries.{Entry}
use Rattle.exact.specs.Factor.{factor}
use Rattle.exact.specs.ExactCase.{ones}
use Rattle.selection.specs.Selection.{Lent, room_of, selected_answer}
use Rattle.selection.specs.Call.{Call, selection_of, selected_steps}
use Rattle.exact_entries.specs.DyadicEntries.{DyadicCall, ReadsMultiples}
use Rattle.exact_entries.proofs.DyadicEntries.{dyadic_call}
use Rattle.exact_entries.specs.ExactEntries.{ExactCall, ReadsBack}
use Rattle.exact_entries.proofs.ExactEntries.{exact_call}
use Rattle.selected.specs.Selected.{SelectedEntries}
use Rattle.refusal.specs.declared.Refusal.{Refusal}
use Rattle.refusal.specs.Refusal.{reply_of}

module _ (x : Call) (lent : Lent) {reply : Result SelectedInverseDiagnostics Refusal} {left : Lent} (C : SelectedEntries x lent reply left) where
  abbrev steps : List Step
  steps = selected_steps x (room_of lent)

  -- a call whose steps pass replies with the diagnosis
  pub passed_reply : Passed steps → reply_of reply ≡ answered (selected_answer (selection_of x))
  passed_reply p = C.replies ∙ first_passed steps (selected_answer (selection_of x)) p

  module _ {d : SelectedInverseDiagnostics} (answer : reply_of reply ≡ answered d) where
    -- and only such a call answers
    pub reply_passed : Passed steps
    reply_passed = told_passed steps (selected_answer (selection_of x)) (sym answer ∙ C.replies)

    -- demand 3, of the reply: d is the diagnosis, Complete exactly if the set is within the limit, and X is what reads back
    pub exact_reply : (whole : ℕ → List (Entry ℤ)) → ExactCall (selection_of x) whole → (X : Matrix) → WholeInverse x.factor.n (factor ones whole) X
        → (d ≡ selected_answer (selection_of x)) × ReadsBack (selection_of x) left X
    exact_reply whole E X is = (
      told_answer steps (selected_answer (selection_of x)) (sym answer ∙ C.replies),
      exact_call x lent reply_passed whole E X is C.lists_are,
    )

    -- beyond unit diagonals, of the reply: the same, with P / Q by multipliers of 2 ^ -s
    pub dyadic_reply : (s : ℕ) (m : ℕ → ℤ) (l : ℕ → List (Entry ℤ)) (z : Matrix) → DyadicCall (selection_of x) s m l z → (P : Matrix) (Q : ℕ)
        → Inverse x.factor.n (pos (2 ^ s)) (factor m l) P Q → (d ≡ selected_answer (selection_of x)) × ReadsMultiples (selection_of x) left s z P Q
    dyadic_reply s m l z E P Q is = (
      told_answer steps (selected_answer (selection_of x)) (sym answer ∙ C.replies),
      dyadic_call x lent reply_passed s m l z E P Q is C.lists_are,
    )
