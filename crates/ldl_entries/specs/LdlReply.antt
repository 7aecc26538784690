-- What reads back after a call that answers: the recurrence of L, D, L transposed; where every pivot is 1, and where every exact step is a multiple of one
-- 2 ^ -s, the exact inverse.
-- Assumes nothing.
use Rattle.std.specs.Prelude.{ℕ, ◌^◌, ◌≡◌, List, ℤ, pos, Result}
use Rattle.std.proofs.Common.{sym, ◌∙◌}
use Rattle.refusal.specs.Steps.{Step, answered, Passed}
use Rattle.refusal.proofs.Steps.{first_passed}
use Rattle.refusal.proofs.Told.{told_passed, told_answer}
use Rattle.diagnostics.specs.declared.SelectedInverseDiagnostics.{SelectedInverseDiagnostics}
use Rattle.integers.specs.Matrix.{Matrix}
use Rattle.integers.specs.Inverse.{WholeInverse}
use Rattle.integers.specs.PivotInverse.{PivotInverse}
use Rattle.takahashi.specs.Entries.{Entry}
use Rattle.exact.specs.Factor.{factor}
use Rattle.exact.specs.ExactCase.{ones}
use Rattle.selection.specs.Selection.{Lent, room_of, selected_answer, selected_table}
use Rattle.selection.specs.LdlCall.{LdlCall, ldl_selection, ldl_steps}
use Rattle.selection.proofs.LdlCall.{ldl_accepted}
use Rattle.exact_entries.specs.Recurrence.{ReadsRecurrence}
use Rattle.exact_entries.proofs.Recurrence.{reads_recurrence}
use Rattle.exact_entries.specs.ExactEntries.{ExactCall, ReadsBack}
use Rattle.exact_entries.proofs.ExactEntries.{exact_entries}
use Rattle.exact_entries.specs.DyadicEntries.{ReadsMultiples}
use Rattle.exact_entries.specs.PivotEntries.{DyadicPivots}
use Rattle.exact_entries.proofs.PivotEntries.{pivots_entries}
use Rattle.ldl_entries.specs.LdlEntries.{LdlEntries}
use Rattle.refusal.specs.declared.Refusal.{Refusal}
use Rattle.refusal.specs.Refusal.{reply_of}

module _ (x : LdlCall) (lent : Lent) {reply : Result SelectedInverseDiagnostics Refusal} {left : Lent} (C : LdlEntries x lent reply left) where
  abbrev steps : List Step
  steps = ldl_steps x (room_of lent)

  -- a call whose steps pass replies with the diagnosis
  pub ldl_passed : Passed steps → reply_of reply ≡ answered (selected_answer (ldl_selection x))
  ldl_passed p = C.replies ∙ first_passed steps (selected_answer (ldl_selection x)) p

  module _ {d : SelectedInverseDiagnostics} (answer : reply_of reply ≡ answered d) where
    -- and only such a call answers
    pub ldl_answers : Passed steps
    ldl_answers = told_passed steps (selected_answer (ldl_selection x)) (sym answer ∙ C.replies)

    -- the answer is the diagnosis
    pub ldl_answer : d ≡ selected_answer (ldl_selection x)
    ldl_answer = told_answer steps (selected_answer (ldl_selection x)) (sym answer ∙ C.replies)

    -- the recurrence is what reads back, and other pairs as absent
    pub ldl_recurrence : ReadsRecurrence (ldl_selection x) left (selected_table (ldl_selection x))
    ldl_recurrence = reads_recurrence (ldl_selection x) lent (ldl_accepted x (room_of lent) ldl_answers) steps ldl_answers C.lists_are

    -- demand 3, where every pivot is 1: X, any inverse of L * Lᵀ, is what reads back
    pub ldl_exact : (whole : ℕ → List (Entry ℤ)) → ExactCall (ldl_selection x) whole → (X : Matrix) → WholeInverse x.factor.n (factor ones whole) X
        → ReadsBack (ldl_selection x) left X
    ldl_exact whole E X is = exact_entries (ldl_selection x) lent (ldl_accepted x (room_of lent) ldl_answers) whole E X is steps ldl_answers C.lists_are

    -- and of other pivots, where every exact step is a multiple of 2 ^ -s by at most 2 ^ 53: P / Q, any inverse of L * D * Lᵀ, is what reads back
    pub ldl_dyadic : (s : ℕ) (w : ℕ → ℤ) (l : ℕ → List (Entry ℤ)) (z : Matrix) → DyadicPivots (ldl_selection x) x.pivots s w l z → (P : Matrix) (Q : ℕ)
        → PivotInverse x.factor.n (pos (2 ^ s)) w (factor (λ j. pos (2 ^ s)) l) P Q → ReadsMultiples (ldl_selection x) left s z P Q
    ldl_dyadic s w l z E P Q is =
        pivots_entries (ldl_selection x) lent (ldl_accepted x (room_of lent) ldl_answers) x.pivots s w l z E P Q is steps ldl_answers C.lists_are
