-- The replies of the call and of the lookup, put together.
-- Assumes nothing.
use Prim.Native.Nat.{ℕ, ◌+◌, ◌-◌, ◌≤◌}
use native.Mathlib.Omega.{arith}
use mathlib.Core.Path.{◌≡◌, refl, sym, ap, subst, ◌∙◌}
use mathlib.Core.Bool.{true, false}
use mathlib.Core.List.{List}
use lib.ListN.{length, take, drop}
use lib.Ieee.{Float}
use borrow.Author.Tests.{leb-true, leb-false}
use Rattle.refusal.specs.Steps.{Step, Reply, refused, verdict, Passed}
use Rattle.refusal.proofs.Told.{told-refused, told_passed, told_answer}
use Rattle.refusal.specs.Bounds.{max_dimension}
use Rattle.refusal.specs.declared.Refusal.{Refusal}
use Rattle.diagnostics.specs.declared.SelectedInverseDiagnostics.{SelectedInverseDiagnostics}
use Rattle.diagnostics.specs.declared.SelectedInverseStatus.{SelectedInverseStatus}
use Rattle.diagnostics.specs.declared.SelectedInverseStatus.TheVariants as status
use Rattle.result.specs.Lookup.{lookup}
use Rattle.selection.specs.Selection.{Lent, room_of, selected_complete, selected_answer, ResultLists, filling_of}
use Rattle.selection.specs.Call.{Call, selection_of, selected_steps}
use Rattle.selection.proofs.Call.{accepted}
use Rattle.selection.proofs.Status.{status_tells, selected_complete_lem}
use Rattle.selected.specs.Selected.{SelectedEntries}
use Rattle.exact_entries.specs.Recurrence.{found}
use Rattle.exact_entries.proofs.Recurrence.{found_entries}
use Rattle.exact_entries.proofs.DyadicEntries.{dyadic_call}
use Rattle.exact_entries.proofs.ExactEntries.{exact_call}
use Rattle.selected_entry.specs.declared.SelectedEntry.TheVariants.{Found, ClosureTooLarge, Refused}
use Rattle.selected_entry.specs.declared.SelectedEntry.{SelectedEntry}
use Rattle.selected_entry.specs.SelectedEntry.{refused_with, too_large, looked, entry_answer, ReadEntry, LookUpInput, LookedAt, LookUpResult}
use Rattle.std.specs.Prelude.{Ok, Err, Result}
use Rattle.refusal.specs.Refusal.{reply_of}

-- a part from 0 on is the front
front : (m : ℕ) (l : List ℕ) → take (m - 0) (drop 0 l) ≡ take m l
front m l = let q : m - 0 ≡ m = omega arith in ap (λ (i : ℕ). take i l) q

module _ (x : Call) (lent : Lent) where
  abbrev steps : List Step
  steps = selected_steps x (room_of lent)

  abbrev diagnosis : SelectedInverseDiagnostics
  diagnosis = selected_answer (selection_of x)

  -- an answered call has starts to look up in
  pub read_ready : {left : Lent} (r : Result SelectedInverseDiagnostics Refusal) → SelectedEntries x lent r left
      → length left.result_starts ≡ length lent.result_starts → LookUpInput x.factor.n left.result_starts r
  read_ready (Ok d) E e =
      let A = accepted x (room_of lent) (told_passed steps diagnosis E.replies) in
      (A.small, omega (arith, A.starts_room))
  read_ready (Err why) E e = tt

  module _ (row col : ℕ) where
    -- the answer, from what the call and the lookup tell
    answer_refused : {k : ℕ} → verdict steps ≡ refused k → refused_with k ≡ entry_answer x (room_of lent) row col
    unfolding entry_answer
    answer_refused e = rw e

    answer_large : Passed steps → selected_complete (selection_of x) ≡ false → too_large ≡ entry_answer x (room_of lent) row col
    unfolding entry_answer
    answer_large p c = rw (p, c)

    answer_found : {left : Lent} → Passed steps → selected_complete (selection_of x) ≡ true
        → ResultLists steps (filling_of (selection_of x)) lent left → {z : Reply Float}
        → z ≡ found (selection_of x) left row col → looked z ≡ entry_answer x (room_of lent) row col
    unfolding entry_answer
    answer_found p c L h =
        ap looked (h ∙ found_entries (selection_of x) lent (accepted x (room_of lent) p) steps p L (leb-true _ _ c) row col) ∙ rw (p, c)

  module _ {left : Lent} (row col : ℕ) where
    module _ {d : SelectedInverseDiagnostics} (E : SelectedEntries x lent (Ok d) left) where
      passed : Passed steps
      passed = told_passed steps diagnosis E.replies

      status_same : (v : SelectedInverseStatus) → d.status ≡ v → diagnosis.status ≡ v
      status_same v e = ap (λ (y : SelectedInverseDiagnostics). y.status) (sym (told_answer steps diagnosis E.replies)) ∙ e

      at_status : (v : SelectedInverseStatus) → d.status ≡ v → (r : SelectedEntry) → LookedAt x.factor.n row col left.result_starts left.result_rows left.result_values v r → ReadEntry x lent row col r left
      at_status status.ClosureTooLarge e r h =
          let large = status_tells (selection_of x) status.ClosureTooLarge (status_same status.ClosureTooLarge e) in
          subst (λ (q : SelectedEntry). ReadEntry x lent row col q left) (sym h)
          (record {
            replies = answer_large row col passed large;
            exact = λ whole C X inv. leb-false _ _ large;
            dyadic = λ s d l z C P Q inv. leb-false _ _ large;
            lists_are = E.lists_are;
          })
      at_status status.Complete e r h =
          let st = status_same status.Complete e in
          subst (λ (q : SelectedEntry). ReadEntry x lent row col q left) (sym h.1)
          (record {
            replies = answer_found row col passed (status_tells (selection_of x) status.Complete st) E.lists_are h.2;
            exact = λ whole C X inv.
                let B = exact_call x lent passed whole C X inv E.lists_are in (
                  (selected_complete_lem (selection_of x)).0 st,
                  (λ p. let m = B.members st row col p in (m.0, h.2 ∙ m.1, m.2)),
                  (λ none. h.2 ∙ B.others st row col none),
                );
            dyadic = λ s d l z C P Q inv.
                let B = dyadic_call x lent passed s d l z C P Q inv E.lists_are in (
                  (selected_complete_lem (selection_of x)).0 st,
                  (λ p. let m = B.members st row col p in (m.0, h.2 ∙ m.1, m.2, m.3)),
                  (λ none. h.2 ∙ B.others st row col none),
                );
            lists_are = E.lists_are;
          })

    -- the lookup after a call is what is promised of both
    pub read_entry : (a : Result SelectedInverseDiagnostics Refusal) → SelectedEntries x lent a left → (r : SelectedEntry) → LookUpResult x.factor.n row col left.result_starts left.result_rows left.result_values a r
        → ReadEntry x lent row col r left
    read_entry (Ok d) E r h = at_status E d.status refl r h
    read_entry (Err why) E r h =
        subst (λ (q : SelectedEntry). ReadEntry x lent row col q left) (sym h)
        (record {
          replies = answer_refused row col (told-refused steps diagnosis E.replies);
          exact = λ whole C X inv. tt;
          dyadic = λ s d l z C P Q inv. tt;
          lists_are = E.lists_are;
        })

-- ---- the lookup itself

module _ (n row col : ℕ) (rs rr : List ℕ) (rv : List Float) (a : Result SelectedInverseDiagnostics Refusal) where
  pub looked-refused : (why : Refusal) → a ≡ Err why → LookUpResult n row col rs rr rv a (Refused why)
  looked-refused why e = subst (λ (q : Result SelectedInverseDiagnostics Refusal). LookUpResult n row col rs rr rv q (Refused why)) (sym e) refl

  module _ (d : SelectedInverseDiagnostics) (e : a ≡ Ok d) where
    pub ready_answered : LookUpInput n rs a → (n ≤ max_dimension) × (n + 1 ≤ length rs)
    ready_answered h = subst (LookUpInput n rs) e h

    looked_status : (v : SelectedInverseStatus) → d.status ≡ v → (r : SelectedEntry) → LookedAt n row col rs rr rv v r → LookUpResult n row col rs rr rv a r
    looked_status v q r h =
        subst (λ (y : Result SelectedInverseDiagnostics Refusal). LookUpResult n row col rs rr rv y r) (sym e) (subst (λ (y : SelectedInverseStatus). LookedAt n row col rs rr rv y r) (sym q) h)

    pub looked-large : d.status ≡ status.ClosureTooLarge → LookUpResult n row col rs rr rv a ClosureTooLarge
    looked-large q = looked_status status.ClosureTooLarge q ClosureTooLarge refl

    pub looked_found : d.status ≡ status.Complete → (f : Result Float Refusal) → reply_of f ≡ lookup (take (n + 1 - 0) (drop 0 rs)) rr rv row col
        → LookUpResult n row col rs rr rv a (Found f)
    looked_found q f h = looked_status status.Complete q (Found f) (f, refl, h ∙ ap (λ (l : List ℕ). lookup l rr rv row col) (front (n + 1) rs))
