-- Laws of specs/ExactVariances.antt.
use Rattle.std.specs.Prelude.{ℕ, ◌+◌, ◌^◌, ◌<◌, ◌≡◌, List, length, get_or, ℤ, pos, Float, Result}
use Rattle.std.proofs.Common.{arith, sym, ap, ◌∙◌}
use Rattle.std.proofs.Math.Path.{subst}
use Rattle.std.specs.Float.{nan}
use Rattle.lists.specs.Tabulate.{tabulate_at, tabulate-length}
use Rattle.lists.specs.Overwrite.{overwrite_at}
use Rattle.refusal.specs.Steps.{Step, answered, Passed}
use Rattle.refusal.proofs.Told.{told_passed, told_answer}
use Rattle.columns.specs.Columns.{start, value}
use Rattle.columns.specs.Operator.{operator_rows}
use Rattle.integers.specs.Matrix.{Matrix}
use Rattle.integers.specs.Inverse.{Inverse, WholeInverse}
use Rattle.takahashi.specs.Entries.{Entry}
use Rattle.exact.specs.Multiple.{Whole}
use Rattle.exact.specs.Exact.{floats}
use Rattle.exact.specs.Factor.{factor}
use Rattle.exact.specs.ExactCase.{ones}
use Rattle.closed_set.specs.ClosedSet.{request}
use Rattle.diagnostics.specs.declared.SelectedInverseDiagnostics.{SelectedInverseDiagnostics}
use Rattle.diagnostics.specs.declared.SelectedInverseStatus.TheVariants.{Complete}
use Rattle.selection.specs.Selection.{Lent, room_of, selected_answer, selected_table, ResultLists, filling_of}
use Rattle.exact_entries.specs.DyadicEntries.{DyadicCall, ReadsMultiples}
use Rattle.exact_entries.proofs.DyadicEntries.{dyadic_entries}
use Rattle.exact_entries.specs.ExactEntries.{ExactCall}
use Rattle.exact_entries.proofs.ExactEntries.{exact_entries, exact_either}
use Rattle.request_marks.proofs.OperatorRequests.{places_requested}
use Rattle.operator_values.specs.Output.{output_after}
use Rattle.operator_values.proofs.Output.{after_complete}
use Rattle.quadratic_form.specs.RowValue.{term_column, row_value, operator_values, operator_value}
use Rattle.quadratic_form.specs.ExactRow.{quadratic}
use Rattle.quadratic_form.proofs.ExactRow.{row_value_exact}
use Rattle.operator_variances_with_limit.specs.Transformed.{TransformedCall, transformed_selection, transformed_steps, transformed_values}
use Rattle.operator_variances_with_limit.specs.Transformed.{TransformedDiagonal, AcceptedTransformed, transformed_accepted}
use Rattle.operator_variances_with_limit.specs.ExactVariances.{first_of_row, places_of_row, TransformedExact}
use Rattle.refusal.specs.declared.Refusal.{Refusal}
use Rattle.refusal.specs.Refusal.{reply_of}

module _ (x : TransformedCall) (lent : Lent) (output : List Float) (passed : Passed (transformed_steps x (room_of lent) (length output)))
    (whole : ℕ → List (Entry ℤ)) (E : ExactCall (transformed_selection x) whole) (X : Matrix) (is : WholeInverse x.factor.n (factor ones whole) X) where
  pub transformed_exact : {left : Lent}
      → ResultLists (transformed_steps x (room_of lent) (length output)) (filling_of (transformed_selection x)) lent left
      → TransformedExact x left (output_after (transformed_steps x (room_of lent) (length output)) (transformed_selection x) (transformed_values x) output) X
  unfolding operator_values
  transformed_exact L = record {
    reads = exact_entries (transformed_selection x) lent A.accepted whole E X is (transformed_steps x (room_of lent) (length output)) passed L;
    variances = λ e i l v R.
        subst (λ (z : Float). Whole z (quadratic (term_column x.columns) v X (first_of_row x i) (places_of_row x i))) (sym (row_is e i l))
        (row_value_exact (term_column x.columns) (value x.weights) (selected_table (transformed_selection x)) v X (start x.row_starts i) (start x.row_starts (i + 1))
        (record { weights = R.weights; entries = λ a b ha hb. entry i l a b ha hb }) R.within);
  }
    where
      A : AcceptedTransformed x (room_of lent) (length output)
      A = transformed_accepted x (room_of lent) (length output) passed

      entry : (i : ℕ) → i < operator_rows x.row_starts → (a b : ℕ) → a < places_of_row x i → b < places_of_row x i
          → Whole (Rattle.takahashi.specs.Recurrence.at (selected_table (transformed_selection x)) (term_column x.columns (first_of_row x i + a)) (term_column x.columns (first_of_row x i + b)))
          (X (term_column x.columns (first_of_row x i + a)) (term_column x.columns (first_of_row x i + b)))
      entry i l a b ha hb =
          exact_either (transformed_selection x) lent A.accepted whole E X is (term_column x.columns (first_of_row x i + a))
          (term_column x.columns (first_of_row x i + b))
          (request (places_requested x.row_starts x.columns i (first_of_row x i + a) (first_of_row x i + b) l (omega arith) (omega arith) (omega arith) (omega arith)))

      row_is : (selected_answer (transformed_selection x)).status ≡ Complete → (i : ℕ) → i < operator_rows x.row_starts
          → get_or (output_after (transformed_steps x (room_of lent) (length output)) (transformed_selection x) (transformed_values x) output) i nan
          ≡ row_value floats (term_column x.columns) (value x.weights) (selected_table (transformed_selection x)) (start x.row_starts i) (start x.row_starts (i + 1))
      row_is e i l =
          ap (λ (o : List Float). get_or o i nan) (after_complete (transformed_steps x (room_of lent) (length output)) (transformed_selection x) (transformed_values x) lent output passed e)
          ∙ overwrite_at (transformed_values x) output i nan
          (omega (arith, tabulate-length (operator_value x.row_starts x.columns x.weights (selected_table (transformed_selection x))) (operator_rows x.row_starts)))
          ∙ tabulate_at (operator_value x.row_starts x.columns x.weights (selected_table (transformed_selection x))) (operator_rows x.row_starts) i nan l

-- ---- beyond unit diagonals: what reads back of the operator's own requests
module _ (x : TransformedCall) (lent : Lent) (output : List Float) (passed : Passed (transformed_steps x (room_of lent) (length output)))
    (s : ℕ) (d : ℕ → ℤ) (l : ℕ → List (Entry ℤ)) (z : Matrix) (E : DyadicCall (transformed_selection x) s d l z) (P : Matrix) (Q : ℕ)
    (is : Inverse x.factor.n (pos (2 ^ s)) (factor d l) P Q) where
  pub transformed_dyadic : {left : Lent} → ResultLists (transformed_steps x (room_of lent) (length output)) (filling_of (transformed_selection x)) lent left
      → ReadsMultiples (transformed_selection x) left s z P Q
  transformed_dyadic L =
      dyadic_entries (transformed_selection x) lent (transformed_accepted x (room_of lent) (length output) passed).accepted s d l z E P Q is
      (transformed_steps x (room_of lent) (length output)) passed L

-- ---- of a reply
module _ (x : TransformedCall) (lent : Lent) (output : List Float) {reply : Result SelectedInverseDiagnostics Refusal} {left : Lent} {out : List Float}
    (C : TransformedDiagonal x lent output reply left out) {d : SelectedInverseDiagnostics} (answer : reply_of reply ≡ answered d) where
  abbrev checks : List Step
  checks = transformed_steps x (room_of lent) (length output)

  all : Passed checks
  all = told_passed checks (selected_answer (transformed_selection x)) (sym answer ∙ C.selected.replies)

  -- demand 3, of the reply: d is the diagnosis, X is what reads back, and the output holds each row's vᵀXv
  pub transformed_exact_reply : (whole : ℕ → List (Entry ℤ)) → ExactCall (transformed_selection x) whole
      → (X : Matrix) → WholeInverse x.factor.n (factor ones whole) X → (d ≡ selected_answer (transformed_selection x)) × TransformedExact x left out X
  transformed_exact_reply whole E X is = (
    told_answer checks (selected_answer (transformed_selection x)) (sym answer ∙ C.selected.replies),
    subst (λ (o : List Float). TransformedExact x left o X) (sym C.selected.output_is) (transformed_exact x lent output all whole E X is C.selected.lists_are),
  )

  -- beyond unit diagonals, of the reply: d is the diagnosis, and P / Q is what reads back
  pub transformed_dyadic_reply : (s : ℕ) (m : ℕ → ℤ) (l : ℕ → List (Entry ℤ)) (z : Matrix) → DyadicCall (transformed_selection x) s m l z
      → (P : Matrix) (Q : ℕ) → Inverse x.factor.n (pos (2 ^ s)) (factor m l) P Q
      → (d ≡ selected_answer (transformed_selection x)) × ReadsMultiples (transformed_selection x) left s z P Q
  transformed_dyadic_reply s m l z E P Q is = (
    told_answer checks (selected_answer (transformed_selection x)) (sym answer ∙ C.selected.replies),
    transformed_dyadic x lent output all s m l z E P Q is C.selected.lists_are,
  )
