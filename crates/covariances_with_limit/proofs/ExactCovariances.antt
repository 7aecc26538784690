-- Laws of specs/ExactCovariances.antt.
use Rattle.std.specs.Prelude.{ℕ, ◌+◌, ◌^◌, ◌<◌, ◌≡◌, length, ℤ, pos, Float, Result}
use Rattle.std.proofs.Common.{arith, sym, subst, ◌∙◌}
use Rattle.std.proofs.Math.Path.{ap}
use mathlib.Core.List.{List}
use Rattle.std.proofs.Math.ListN.{get_or}
use Rattle.std.specs.Float.Ieee.{nan}
use Rattle.lists.specs.Tabulate.{tabulate_at, tabulate-length}
use Rattle.lists.specs.Overwrite.{overwrite_at}
use Rattle.refusal.specs.Steps.{Step, answered, Passed}
use Rattle.refusal.proofs.Told.{told_passed, told_answer}
use Rattle.columns.specs.Columns.{start, value}
use Rattle.columns.proofs.Factor.{starts_end}
use Rattle.integers.specs.Matrix.{Matrix}
use Rattle.integers.specs.Inverse.{Inverse, WholeInverse}
use Rattle.takahashi.specs.Entries.{Entry}
use Rattle.exact.specs.Multiple.{Whole}
use Rattle.exact.specs.Factor.{factor}
use Rattle.exact.specs.ExactCase.{ones}
use Rattle.closed_set.specs.ClosedSet.{request}
use Rattle.diagnostics.specs.declared.SelectedInverseDiagnostics.{SelectedInverseDiagnostics}
use Rattle.diagnostics.specs.declared.SelectedInverseStatus.TheVariants.{Complete}
use Rattle.selection.specs.Selection.{Selection, Lent, room_of, selected_answer, selected_table, ResultLists, filling_of}
use Rattle.exact_entries.specs.DyadicEntries.{DyadicCall, ReadsMultiples}
use Rattle.exact_entries.proofs.DyadicEntries.{dyadic_entries}
use Rattle.exact_entries.specs.ExactEntries.{ExactCall}
use Rattle.exact_entries.proofs.ExactEntries.{exact_entries, exact_either, exact_symmetric}
use Rattle.request_marks.proofs.CrossRequests.{cross_requested_lem}
use Rattle.quadratic_form.specs.RowValue.{term_column, row_pair_value, row_pair_values}
use Rattle.quadratic_form.proofs.ExactCross.{bilinear-exchanged, cross_value_exact}
use Rattle.operator_values.specs.Output.{output_after}
use Rattle.operator_values.proofs.Output.{after_complete}
use Rattle.covariances_with_limit.specs.Covariances.{CovarianceCall, covariance_selection, covariance_steps, covariance_values, Covariances}
use Rattle.covariances_with_limit.specs.Covariances.{AcceptedCovariances, covariance_accepted}
use Rattle.covariances_with_limit.specs.ExactCovariances.{first_place, place_count, exchanged, a_row, b_row, exact_covariance, CovariancesExact}
use Rattle.refusal.specs.declared.Refusal.{Refusal}
use Rattle.refusal.specs.Refusal.{reply_of}

module _ (x : CovarianceCall) (lent : Lent) (output : List Float) (passed : Passed (covariance_steps x (room_of lent) (length output)))
    (whole : ℕ → List (Entry ℤ)) (E : ExactCall (covariance_selection x) whole) (X : Matrix) (is : WholeInverse x.factor.n (factor ones whole) X) where
  abbrev steps : List Step
  steps = covariance_steps x (room_of lent) (length output)

  abbrev sel : Selection
  sel = covariance_selection x

  A : AcceptedCovariances x (room_of lent) (length output)
  A = covariance_accepted x (room_of lent) (length output) passed

  entry : (p : ℕ) → p < length x.a_rows → (i j : ℕ) → i < place_count x.a (a_row x p) → j < place_count x.b (b_row x p)
      → Whole (Rattle.takahashi.specs.Recurrence.at (selected_table sel) (term_column x.a.columns (first_place x.a (a_row x p) + i)) (term_column x.b.columns (first_place x.b (b_row x p) + j)))
      (X (term_column x.a.columns (first_place x.a (a_row x p) + i)) (term_column x.b.columns (first_place x.b (b_row x p) + j)))
  entry p l i j hi hj =
      exact_either sel lent A.accepted whole E X is (term_column x.a.columns (first_place x.a (a_row x p) + i))
      (term_column x.b.columns (first_place x.b (b_row x p) + j))
      (request
      (cross_requested_lem x.a.row_starts x.a.columns x.b.row_starts x.b.columns x.a_rows x.b_rows p
      (first_place x.a (a_row x p) + i) (first_place x.b (b_row x p) + j) l (omega arith) (omega arith) (omega arith) (omega arith)))

  abbrev pair_value : ℕ → Float
  pair_value p =
      row_pair_value x.a.row_starts x.a.columns x.a.weights x.b.row_starts x.b.columns x.b.weights (selected_table sel) (a_row x p) (b_row x p)

  pair_is : (selected_answer sel).status ≡ Complete → (p : ℕ) → p < length x.a_rows
      → get_or (output_after steps sel (covariance_values x) output) p nan ≡ pair_value p
  unfolding row_pair_values
  pair_is e p l =
      ap (λ (o : List Float). get_or o p nan) (after_complete steps sel (covariance_values x) lent output passed e)
      ∙ overwrite_at (covariance_values x) output p nan (omega (arith, tabulate-length pair_value (length x.a_rows)))
      ∙ tabulate_at pair_value (length x.a_rows) p nan l

  pub covariance_exact : {left : Lent} → ResultLists steps (filling_of sel) lent left
      → CovariancesExact x left (output_after steps sel (covariance_values x) output) X
  covariance_exact L = record {
    reads = exact_entries sel lent A.accepted whole E X is steps passed L;
    covariances = λ e p l v u P.
        subst (λ (z : Float). Whole z (exact_covariance x v u X p)) (sym (pair_is e p l))
        (cross_value_exact (term_column x.a.columns) (term_column x.b.columns) (value x.a.weights) (value x.b.weights) (selected_table sel) v u X
        (start x.a.row_starts (a_row x p)) (start x.a.row_starts (a_row x p + 1)) (start x.b.row_starts (b_row x p)) (start x.b.row_starts (b_row x p + 1))
        (record { first = P.first; second = P.second; entries = λ i j hi hj. entry p l i j hi hj }) P.within);
  }

  -- exchanging the operators gives the same exact covariance
  pub covariance_exchanged : (v u : ℕ → ℤ) (p : ℕ) → p < length x.a_rows → exact_covariance x v u X p ≡ exact_covariance (exchanged x) u v X p
  covariance_exchanged v u p l =
      let O = A.operators in
      let a< = O.inside p l in
      let b< = O.inside₂ p l in
      let a-end = starts_end O.first.starts_rise (a_row x p + 1) (omega arith) in
      let b_end = starts_end O.second.starts_rise (b_row x p + 1) (omega arith) in
      bilinear-exchanged (term_column x.a.columns) (term_column x.b.columns) v u X
      (first_place x.a (a_row x p)) (place_count x.a (a_row x p)) (first_place x.b (b_row x p)) (place_count x.b (b_row x p))
      (λ i j hi hj.
      exact_symmetric sel lent A.accepted whole E X is (term_column x.a.columns (first_place x.a (a_row x p) + i))
      (term_column x.b.columns (first_place x.b (b_row x p) + j))
      (O.first.inside (first_place x.a (a_row x p) + i) (omega arith)) (O.second.inside (first_place x.b (b_row x p) + j) (omega arith)))

-- ---- beyond unit diagonals: what reads back of the row pairs' own requests
module _ (x : CovarianceCall) (lent : Lent) (output : List Float) (passed : Passed (covariance_steps x (room_of lent) (length output)))
    (s : ℕ) (d : ℕ → ℤ) (l : ℕ → List (Entry ℤ)) (z : Matrix) (E : DyadicCall (covariance_selection x) s d l z) (P : Matrix) (Q : ℕ)
    (is : Inverse x.factor.n (pos (2 ^ s)) (factor d l) P Q) where
  pub covariance_dyadic : {left : Lent} → ResultLists (covariance_steps x (room_of lent) (length output)) (filling_of (covariance_selection x)) lent left
      → ReadsMultiples (covariance_selection x) left s z P Q
  covariance_dyadic L =
      dyadic_entries (covariance_selection x) lent (covariance_accepted x (room_of lent) (length output) passed).accepted s d l z E P Q is
      (covariance_steps x (room_of lent) (length output)) passed L

-- ---- of a reply
module _ (x : CovarianceCall) (lent : Lent) (output : List Float) {reply : Result SelectedInverseDiagnostics Refusal} {left : Lent} {out : List Float}
    (C : Covariances x lent output reply left out) {d : SelectedInverseDiagnostics} (answer : reply_of reply ≡ answered d) where
  abbrev checks : List Step
  checks = covariance_steps x (room_of lent) (length output)

  all : Passed checks
  all = told_passed checks (selected_answer (covariance_selection x)) (sym answer ∙ C.selected.replies)

  -- demand 3, of the reply: d is the diagnosis, X is what reads back, and the output holds each row pair's vᵀXu
  pub covariance_exact_reply : (whole : ℕ → List (Entry ℤ)) → ExactCall (covariance_selection x) whole
      → (X : Matrix) → WholeInverse x.factor.n (factor ones whole) X → (d ≡ selected_answer (covariance_selection x)) × CovariancesExact x left out X
  covariance_exact_reply whole E X is = (
    told_answer checks (selected_answer (covariance_selection x)) (sym answer ∙ C.selected.replies),
    subst (λ (o : List Float). CovariancesExact x left o X) (sym C.selected.output_is) (covariance_exact x lent output all whole E X is C.selected.lists_are),
  )

  -- beyond unit diagonals, of the reply: d is the diagnosis, and P / Q is what reads back
  pub covariance_dyadic_reply : (s : ℕ) (m : ℕ → ℤ) (l : ℕ → List (Entry ℤ)) (z : Matrix) → DyadicCall (covariance_selection x) s m l z
      → (P : Matrix) (Q : ℕ) → Inverse x.factor.n (pos (2 ^ s)) (factor m l) P Q
      → (d ≡ selected_answer (covariance_selection x)) × ReadsMultiples (covariance_selection x) left s z P Q
  covariance_dyadic_reply s m l z E P Q is = (
    told_answer checks (selected_answer (covariance_selection x)) (sym answer ∙ C.selected.replies),
    covariance_dyadic x lent output all s m l z E P Q is C.selected.lists_are,
  )
