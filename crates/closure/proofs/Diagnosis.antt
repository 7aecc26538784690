-- The counts of a diagnosis.
-- Assumes nothing.
use Prim.Native.Nat.{ℕ, ◌+◌, ◌≤◌, min}
use native.Mathlib.Omega.{arith}
use mathlib.Core.Path.{◌≡◌, ap, ◌∙◌}
use mathlib.Core.Bool.{Bool}
use mathlib.Core.List.{List}
use lib.Dec.{leb}
use borrow.Author.Tests.{leb-true, le-leb}
use Rattle.lists.specs.Test.{same_truth}
use Rattle.pairs.proofs.Pair.{pair_total_small}
use Rattle.columns.specs.Kept.{pattern}
use Rattle.closed_set.specs.Size.{closure_size, requested_pairs}
use Rattle.closed_set.proofs.Size.{closure_size_most}
use Rattle.diagnostics.specs.Diagnosis.{status_of, max_count, diagnosis}
use Rattle.diagnostics.specs.declared.SelectedInverseDiagnostics.{SelectedInverseDiagnostics}
use Rattle.diagnostics.specs.declared.SelectedInverseStatus.{SelectedInverseStatus}
use Rattle.selection.specs.Diagnosis.{closure_pairs, diagnosis_of}
use Rattle.closure.specs.Closure.{ClosureInput, Requested}
use Rattle.closure.proofs.Answer.{requested_size}

-- whether the count is within the limit tells it of the set
within_same : (size limit : ℕ) → leb (min size (limit + 1)) limit ≡ leb size limit
within_same size limit =
    same_truth (leb (min size (limit + 1)) limit) (leb size limit)
    (λ e. let h = leb-true (min size (limit + 1)) limit e in le-leb size limit (omega arith))
    (λ e. let h = leb-true size limit e in le-leb (min size (limit + 1)) limit (omega arith))

module _ {n : ℕ} {starts rows : List ℕ} {values : ℕ} (nz : ℕ → Bool) {first : ℕ} {stops s : List ℕ} (limit : ℕ)
    (G : ClosureInput n starts rows values first stops s) (req : ℕ → ℕ → Bool) (R : Requested n req s) (kept : ℕ) {count : ℕ}
    (e : count ≡ closure_pairs n (pattern starts rows nz) req limit) where
  -- the count is a float
  pub count_small : count ≤ max_count
  count_small =
      let t = pair_total_small n G.small in
      omega (arith, e, closure_size_most n (pattern starts rows nz) req)

  pub counts_diagnosis : {d : SelectedInverseDiagnostics} {status : SelectedInverseStatus} → status ≡ status_of (leb count limit)
      → d ≡ diagnosis first count kept limit status → d ≡ diagnosis_of n (pattern starts rows nz) kept req limit
  unfolding diagnosis_of
  counts_diagnosis t h =
      let size = closure_size n (pattern starts rows nz) req in
      h
      ∙ ap (diagnosis first count kept limit) t
      ∙ ap (λ (a : ℕ). diagnosis a count kept limit (status_of (leb count limit))) (requested_size nz limit G req R)
      ∙ ap (λ (a : ℕ). diagnosis (requested_pairs n req) a kept limit (status_of (leb a limit))) e
      ∙ ap (λ (b : Bool). diagnosis (requested_pairs n req) (min size (limit + 1)) kept limit (status_of b)) (within_same size limit)
