-- Laws of specs/ExactCovariances.antt.
use Rattle.std.specs.Prelude.{ℕ, ◌^◌, ◌<◌, ◌≡◌, List, length, ℤ, pos, Float, Result}
use Rattle.refusal.specs.Steps.{answered, Passed}
use Rattle.integers.specs.Matrix.{Matrix}
use Rattle.integers.specs.Inverse.{Inverse, WholeInverse}
use Rattle.takahashi.specs.Entries.{Entry}
use Rattle.exact.specs.Factor.{factor}
use Rattle.exact.specs.ExactCase.{ones}
use Rattle.diagnostics.specs.declared.SelectedInverseDiagnostics.{SelectedInverseDiagnostics}
use Rattle.selection.specs.Selection.{Lent, room_of, selected_answer, ResultLists, filling_of}
use Rattle.exact_entries.specs.DyadicEntries.{DyadicCall, ReadsMultiples}
use Rattle.exact_entries.specs.ExactEntries.{ExactCall}
use Rattle.operator_values.specs.Output.{output_after}
use Rattle.covariances_with_limit.specs.Covariances as limited
use Rattle.covariances_with_limit.proofs.ExactCovariances as general
use Rattle.covariances.specs.Covariances.{CovarianceCall, with_default, covariance_selection, covariance_steps, covariance_values, Covariances}
use Rattle.covariances.specs.ExactCovariances.{exchanged, exact_covariance, CovariancesExact}
use Rattle.refusal.specs.declared.Refusal.{Refusal}
use Rattle.refusal.specs.Refusal.{reply_of}

module _ (x : CovarianceCall) (lent : Lent) (output : List Float) (passed : Passed (covariance_steps x (room_of lent) (length output)))
    (whole : ℕ → List (Entry ℤ)) (E : ExactCall (covariance_selection x) whole) (X : Matrix) (is : WholeInverse x.factor.n (factor ones whole) X) where
  pub covariance_exact : {left : Lent} → ResultLists (covariance_steps x (room_of lent) (length output)) (filling_of (covariance_selection x)) lent left
      → CovariancesExact x left (output_after (covariance_steps x (room_of lent) (length output)) (covariance_selection x) (covariance_values x) output) X
  covariance_exact = general.covariance_exact (with_default x) lent output passed whole E X is

  -- exchanging the operators gives the same exact covariance
  pub covariance_exchanged : (v u : ℕ → ℤ) (p : ℕ) → p < length x.a_rows → exact_covariance x v u X p ≡ exact_covariance (exchanged x) u v X p
  covariance_exchanged = general.covariance_exchanged (with_default x) lent output passed whole E X is

-- ---- beyond unit diagonals: what reads back of the row pairs' own requests
module _ (x : CovarianceCall) (lent : Lent) (output : List Float) (passed : Passed (covariance_steps x (room_of lent) (length output)))
    (s : ℕ) (d : ℕ → ℤ) (l : ℕ → List (Entry ℤ)) (z : Matrix) (E : DyadicCall (covariance_selection x) s d l z) (P : Matrix) (Q : ℕ)
    (is : Inverse x.factor.n (pos (2 ^ s)) (factor d l) P Q) where
  pub covariance_dyadic : {left : Lent} → ResultLists (covariance_steps x (room_of lent) (length output)) (filling_of (covariance_selection x)) lent left
      → ReadsMultiples (covariance_selection x) left s z P Q
  covariance_dyadic = general.covariance_dyadic (with_default x) lent output passed s d l z E P Q is

-- ---- of a reply
module _ (x : CovarianceCall) (lent : Lent) (output : List Float) {reply : Result SelectedInverseDiagnostics Refusal} {left : Lent} {out : List Float}
    (C : Covariances x lent output reply left out) {d : SelectedInverseDiagnostics} (answer : reply_of reply ≡ answered d) where
  limited_call : limited.Covariances (with_default x) lent output reply left out
  limited_call = record { selected = C }

  -- demand 3, of the reply: d is the diagnosis, X is what reads back, and the output holds each row pair's vᵀXu
  pub covariance_exact_reply : (whole : ℕ → List (Entry ℤ)) → ExactCall (covariance_selection x) whole
      → (X : Matrix) → WholeInverse x.factor.n (factor ones whole) X → (d ≡ selected_answer (covariance_selection x)) × CovariancesExact x left out X
  covariance_exact_reply = general.covariance_exact_reply (with_default x) lent output limited_call answer

  -- beyond unit diagonals, of the reply: d is the diagnosis, and P / Q is what reads back
  pub covariance_dyadic_reply : (s : ℕ) (m : ℕ → ℤ) (l : ℕ → List (Entry ℤ)) (z : Matrix) → DyadicCall (covariance_selection x) s m l z
      → (P : Matrix) (Q : ℕ) → Inverse x.factor.n (pos (2 ^ s)) (factor m l) P Q
      → (d ≡ selected_answer (covariance_selection x)) × ReadsMultiples (covariance_selection x) left s z P Q
  covariance_dyadic_reply = general.covariance_dyadic_reply (with_default x) lent output limited_call answer
