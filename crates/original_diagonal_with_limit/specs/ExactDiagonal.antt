-- The exact case of the diagonal in original order with a limit, in whole numbers and beyond unit diagonals: output i is the exact variance of original cell i.
-- Assumes nothing.
use Rattle.std.specs.Prelude.{ℕ, ◌^◌, ◌≤◌, ◌<◌, ◌≡◌, not, List, [], ◌∷◌, ◌++◌, length, get_or, ℤ, pos, ◌*ℤ◌, Float, Result}
use Rattle.std.proofs.Common.{arith, sym, ap, subst, ◌∙◌, le-leb, leb-true}
use Rattle.std.specs.Float.{nan}
use Rattle.std.proofs.lemmas.Bool.{lt-leb, not-false}
use Rattle.lists.specs.Tabulate.{tabulate_at}
use Rattle.lists.specs.Overwrite.{overwrite_at}
use Rattle.refusal.specs.Steps.{Step, refused, answered, Passed}
use Rattle.refusal.proofs.Steps.{after_passed, first_hit, first_passed, append_passed, passed_append, passed_front, passed_back, passed_clear, clear_passed}
use Rattle.refusal.proofs.Told.{told_passed, told_answer}
use Rattle.integers.specs.Matrix.{Matrix}
use Rattle.integers.specs.Inverse.{Inverse, WholeInverse}
use Rattle.takahashi.specs.Entries.{Entry}
use Rattle.exact.specs.Multiple.{Multiple, Whole}
use Rattle.exact.specs.Factor.{factor}
use Rattle.exact.specs.ExactCase.{ones}
use Rattle.closed_set.specs.ClosedSet.{request}
use Rattle.factor_order.specs.Permutation.{index, reordered}
use Rattle.factor_order.proofs.Laws.{reordered-length, reordered_at}
use Rattle.diagnostics.specs.declared.SelectedInverseDiagnostics.{SelectedInverseDiagnostics}
use Rattle.diagnostics.specs.declared.SelectedInverseStatus.TheVariants.{Complete}
use Rattle.selection.specs.Selection.{Lent, room_of, selected_size, selected_complete, selected_answer, selected_table, ResultLists, filling_of}
use Rattle.selection.proofs.Status.{selected_complete_lem}
use Rattle.exact_entries.specs.Recurrence.{InClosedSet}
use Rattle.exact_entries.specs.DyadicEntries.{DyadicCall, ReadsMultiples}
use Rattle.exact_entries.proofs.DyadicEntries.{dyadic_at, dyadic_entries}
use Rattle.exact_entries.specs.ExactEntries.{ExactCall, ReadsBack}
use Rattle.exact_entries.proofs.ExactEntries.{exact_entries, exact_at}
use Rattle.request_marks.proofs.DiagonalMarks.{diagonal_requested}
use Rattle.original_diagonal_with_limit.specs.Original.{OriginalCall, original_selection, original_steps, covered_steps, factor_diagonal, original_after}
use Rattle.original_diagonal_with_limit.specs.Original.{OriginalDiagonal, AcceptedOriginal, original_accepted, original_inside}
use Rattle.refusal.specs.declared.Refusal.{Refusal}
use Rattle.refusal.specs.Refusal.{reply_of}

-- X is what reads back, and its diagonal in original order what the output holds
pub record OriginalExact (x : OriginalCall) (left : Lent) (out : List Float) (X : Matrix) : Type 0 where
  pub reads : ReadsBack (original_selection x) left X
  pub variances : (selected_answer (original_selection x)).status ≡ Complete → (i : ℕ) → i < x.factor.n
      → Whole (get_or out i nan) (X (index x.perm i) (index x.perm i))

-- P / Q is what reads back, by multipliers of 2 ^ -s, and its diagonal in original order what the output holds
pub record OriginalMultiples (x : OriginalCall) (left : Lent) (out : List Float) (s : ℕ) (z P : Matrix) (Q : ℕ) : Type 0 where
  pub reads : ReadsMultiples (original_selection x) left s z P Q
  pub variances : (selected_answer (original_selection x)).status ≡ Complete → (i : ℕ) → i < x.factor.n
      → Multiple s (get_or out i nan) (z (index x.perm i) (index x.perm i))
      × (z (index x.perm i) (index x.perm i) *ℤ pos Q ≡ pos (2 ^ s) *ℤ P (index x.perm i) (index x.perm i))

module _ (x : OriginalCall) (lent : Lent) (output : List Float) (passed : Passed (original_steps x (room_of lent) (length output))) where
  A : AcceptedOriginal x (room_of lent) (length output)
  A = original_accepted x (room_of lent) (length output) passed

  -- the diagonal that original cell i has in factor order is in the set
  in_set : (i : ℕ) → i < x.factor.n → InClosedSet (original_selection x) (index x.perm i) (index x.perm i)
  in_set i l = request (diagonal_requested x.factor.n (index x.perm i) (original_inside A i l))

  covered : (selected_answer (original_selection x)).status ≡ Complete → Passed (covered_steps x (room_of lent) (length output))
  covered e =
      passed_append (original_steps x (room_of lent) (length output)) ((8, not (selected_complete (original_selection x))) ∷ []) passed
      (clear_passed ((8, not (selected_complete (original_selection x))) ∷ [])
      (ap not (le-leb _ _ ((selected_complete_lem (original_selection x)).0 e)), tt))

  -- after a Complete answer output i is the table's entry there
  value : (selected_answer (original_selection x)).status ≡ Complete → (i : ℕ) → i < x.factor.n
      → get_or (original_after x lent output) i nan ≡ selected_table (original_selection x) (index x.perm i) (index x.perm i)
  value e i l =
      ap (λ (v : List Float). get_or v i nan) (after_passed (covered_steps x (room_of lent) (length output)) _ output (covered e))
      ∙ overwrite_at (reordered nan x.perm (factor_diagonal x)) output i nan (omega (arith, reordered-length nan x.perm (factor_diagonal x), A.long))
      ∙ reordered_at nan x.perm (factor_diagonal x) i (omega (arith, A.long))
      ∙ tabulate_at (λ j. selected_table (original_selection x) j j) x.factor.n (index x.perm i) nan (original_inside A i l)

  pub original_exact : (whole : ℕ → List (Entry ℤ)) → ExactCall (original_selection x) whole → (X : Matrix) → WholeInverse x.factor.n (factor ones whole) X
      → {left : Lent} → ResultLists (original_steps x (room_of lent) (length output)) (filling_of (original_selection x)) lent left
      → OriginalExact x left (original_after x lent output) X
  original_exact whole E X is L = record {
    reads = exact_entries (original_selection x) lent A.accepted whole E X is (original_steps x (room_of lent) (length output)) passed L;
    variances = λ e i l.
        subst (λ (v : Float). Whole v (X (index x.perm i) (index x.perm i))) (sym (value e i l))
        (exact_at (original_selection x) lent A.accepted whole E X is (index x.perm i) (index x.perm i) (in_set i l));
  }

  pub original_dyadic : (s : ℕ) (d : ℕ → ℤ) (l : ℕ → List (Entry ℤ)) (z : Matrix) → DyadicCall (original_selection x) s d l z → (P : Matrix) (Q : ℕ)
      → Inverse x.factor.n (pos (2 ^ s)) (factor d l) P Q
      → {left : Lent} → ResultLists (original_steps x (room_of lent) (length output)) (filling_of (original_selection x)) lent left
      → OriginalMultiples x left (original_after x lent output) s z P Q
  original_dyadic s d l z E P Q is L = record {
    reads = dyadic_entries (original_selection x) lent A.accepted s d l z E P Q is (original_steps x (room_of lent) (length output)) passed L;
    variances = λ e i h.
        let both = dyadic_at (original_selection x) lent A.accepted s d l z E P Q is (index x.perm i) (index x.perm i) (in_set i h) in
        (subst (λ (v : Float). Multiple s v (z (index x.perm i) (index x.perm i))) (sym (value e i h)) both.0, both.1);
  }

-- ---- of a reply
module _ (x : OriginalCall) (lent : Lent) (output : List Float) {reply : Result SelectedInverseDiagnostics Refusal} {left : Lent} {out : List Float}
    (C : OriginalDiagonal x lent output reply left out) where
  abbrev checks : List Step
  checks = original_steps x (room_of lent) (length output)

  abbrev eight : List Step
  eight = (8, not (selected_complete (original_selection x))) ∷ []

  module _ (passed : Passed checks) where
    -- past the checks, a set within the limit is answered with the diagnosis
    pub within_reply : selected_size (original_selection x) ≤ x.limit → reply_of reply ≡ answered (selected_answer (original_selection x))
    within_reply h =
        C.replies
        ∙ first_passed (checks ++ eight) (selected_answer (original_selection x)) (passed_append checks eight passed (clear_passed eight (ap not (le-leb _ _ h), tt)))

    -- any other is refused with 8
    pub beyond-reply : x.limit < selected_size (original_selection x) → reply_of reply ≡ refused 8
    beyond-reply h =
        C.replies
        ∙ append_passed checks eight (selected_answer (original_selection x)) passed
        ∙ first_hit 8 [] (selected_answer (original_selection x)) (ap not (lt-leb (selected_size (original_selection x)) x.limit h))

  module _ {d : SelectedInverseDiagnostics} (answer : reply_of reply ≡ answered d) where
    all : Passed (checks ++ eight)
    all = told_passed (checks ++ eight) (selected_answer (original_selection x)) (sym answer ∙ C.replies)

    -- an answer gives the diagnosis, of a set within the limit
    diagnosed : (d ≡ selected_answer (original_selection x)) × (selected_size (original_selection x) ≤ x.limit)
    diagnosed = (
      told_answer (checks ++ eight) (selected_answer (original_selection x)) (sym answer ∙ C.replies),
      leb-true _ _ (not-false _ (passed_clear eight (passed_back checks eight all)).0),
    )

    -- demand 3, of the reply: d is the diagnosis, Complete, X is what reads back, and its diagonal in original order is the output
    pub original_exact_reply : (whole : ℕ → List (Entry ℤ)) → ExactCall (original_selection x) whole
        → (X : Matrix) → WholeInverse x.factor.n (factor ones whole) X
        → (d ≡ selected_answer (original_selection x)) × (selected_size (original_selection x) ≤ x.limit) × OriginalExact x left out X
    original_exact_reply whole E X is = (
      diagnosed.0,
      diagnosed.1,
      subst (λ (o : List Float). OriginalExact x left o X) (sym C.output_is) (original_exact x lent output (passed_front checks eight all) whole E X is C.lists_are),
    )

    -- beyond unit diagonals, of the reply: the same, with P / Q by multipliers of 2 ^ -s
    pub original_dyadic_reply : (s : ℕ) (m : ℕ → ℤ) (l : ℕ → List (Entry ℤ)) (z : Matrix) → DyadicCall (original_selection x) s m l z
        → (P : Matrix) (Q : ℕ) → Inverse x.factor.n (pos (2 ^ s)) (factor m l) P Q
        → (d ≡ selected_answer (original_selection x)) × (selected_size (original_selection x) ≤ x.limit) × OriginalMultiples x left out s z P Q
    original_dyadic_reply s m l z E P Q is = (
      diagnosed.0,
      diagnosed.1,
      subst (λ (o : List Float). OriginalMultiples x left o s z P Q) (sym C.output_is)
          (original_dyadic x lent output (passed_front checks eight all) s m l z E P Q is C.lists_are),
    )
