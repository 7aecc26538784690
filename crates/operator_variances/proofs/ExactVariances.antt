-- Laws of specs/ExactVariances.antt.
use Rattle.std.specs.Prelude.{ℕ, ◌^◌, ◌≡◌, List, length, ℤ, pos, Float, Result}
use Rattle.refusal.specs.Steps.{answered, Passed}
use Rattle.integers.specs.Matrix.{Matrix}
use Rattle.integers.specs.Inverse.{Inverse, WholeInverse}
use Rattle.takahashi.specs.Entries.{Entry}
use Rattle.exact.specs.Factor.{factor}
use Rattle.exact.specs.ExactCase.{ones}
use Rattle.diagnostics.specs.declared.SelectedInverseDiagnostics.{SelectedInverseDiagnostics}
use Rattle.selection.specs.Selection.{Lent, room_of, selected_answer, ResultLists, filling_of}
use Rattle.exact_entries.specs.DyadicEntries.{DyadicCall, ReadsMultiples}
use Rattle.exact_entries.specs.ExactEntries.{ExactCall}
use Rattle.operator_values.specs.Output.{output_after}
use Rattle.operator_variances_with_limit.specs.Transformed as limited
use Rattle.operator_variances_with_limit.proofs.ExactVariances as general
use Rattle.operator_variances.specs.Transformed.{TransformedCall, with_default, transformed_selection, transformed_steps, transformed_values, TransformedDiagonal}
use Rattle.operator_variances.specs.ExactVariances.{TransformedExact}
use Rattle.refusal.specs.declared.Refusal.{Refusal}
use Rattle.refusal.specs.Refusal.{reply_of}

module _ (x : TransformedCall) (lent : Lent) (output : List Float) (passed : Passed (transformed_steps x (room_of lent) (length output)))
    (whole : ℕ → List (Entry ℤ)) (E : ExactCall (transformed_selection x) whole) (X : Matrix) (is : WholeInverse x.factor.n (factor ones whole) X) where
  pub transformed_exact : {left : Lent}
      → ResultLists (transformed_steps x (room_of lent) (length output)) (filling_of (transformed_selection x)) lent left
      → TransformedExact x left (output_after (transformed_steps x (room_of lent) (length output)) (transformed_selection x) (transformed_values x) output) X
  transformed_exact = general.transformed_exact (with_default x) lent output passed whole E X is

-- ---- beyond unit diagonals: what reads back of the operator's own requests
module _ (x : TransformedCall) (lent : Lent) (output : List Float) (passed : Passed (transformed_steps x (room_of lent) (length output)))
    (s : ℕ) (d : ℕ → ℤ) (l : ℕ → List (Entry ℤ)) (z : Matrix) (E : DyadicCall (transformed_selection x) s d l z) (P : Matrix) (Q : ℕ)
    (is : Inverse x.factor.n (pos (2 ^ s)) (factor d l) P Q) where
  pub transformed_dyadic : {left : Lent} → ResultLists (transformed_steps x (room_of lent) (length output)) (filling_of (transformed_selection x)) lent left
      → ReadsMultiples (transformed_selection x) left s z P Q
  transformed_dyadic = general.transformed_dyadic (with_default x) lent output passed s d l z E P Q is

-- ---- of a reply
module _ (x : TransformedCall) (lent : Lent) (output : List Float) {reply : Result SelectedInverseDiagnostics Refusal} {left : Lent} {out : List Float}
    (C : TransformedDiagonal x lent output reply left out) {d : SelectedInverseDiagnostics} (answer : reply_of reply ≡ answered d) where
  limited_call : limited.TransformedDiagonal (with_default x) lent output reply left out
  limited_call = record { selected = C }

  -- demand 3, of the reply: d is the diagnosis, X is what reads back, and the output holds each row's vᵀXv
  pub transformed_exact_reply : (whole : ℕ → List (Entry ℤ)) → ExactCall (transformed_selection x) whole
      → (X : Matrix) → WholeInverse x.factor.n (factor ones whole) X → (d ≡ selected_answer (transformed_selection x)) × TransformedExact x left out X
  transformed_exact_reply = general.transformed_exact_reply (with_default x) lent output limited_call answer

  -- beyond unit diagonals, of the reply: d is the diagnosis, and P / Q is what reads back
  pub transformed_dyadic_reply : (s : ℕ) (m : ℕ → ℤ) (l : ℕ → List (Entry ℤ)) (z : Matrix) → DyadicCall (transformed_selection x) s m l z
      → (P : Matrix) (Q : ℕ) → Inverse x.factor.n (pos (2 ^ s)) (factor m l) P Q
      → (d ≡ selected_answer (transformed_selection x)) × ReadsMultiples (transformed_selection x) left s z P Q
  transformed_dyadic_reply = general.transformed_dyadic_reply (with_default x) lent output limited_call answer
