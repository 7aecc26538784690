-- The status of an answer: Complete exactly when the closed set is within the limit; and its counts.
-- Assumes nothing.
use Rattle.std.specs.Prelude.{◌+◌, ◌≤◌, min, ℕ, ◌≡◌, Bool, true, false, ◌↔◌, List, leb}
use Rattle.std.proofs.Math.Path.{refl}
use Rattle.std.proofs.Common.{sym, ap, ◌∙◌, le-leb, leb-true}
use Rattle.columns.specs.Form.{kept_pairs}
use Rattle.closed_set.specs.Size.{closure_size}
use Rattle.diagnostics.specs.Diagnosis.{status_of, complete_of, diagnosis}
use Rattle.diagnostics.specs.declared.SelectedInverseStatus.{SelectedInverseStatus}
use Rattle.diagnostics.specs.declared.SelectedInverseStatus.TheVariants.{Complete}
use Rattle.selection.specs.Diagnosis.{diagnosis_of}
use Rattle.selection.specs.Selection.{Selection, selected_pattern, selected_size, selected_complete, selected_answer}

complete_status : (b : Bool) → complete_of (status_of b) ≡ b
complete_status true = refl
complete_status false = refl

-- ---- of any pattern
module _ (n : ℕ) (desc : ℕ → List ℕ) (kept : ℕ) (req : ℕ → ℕ → Bool) (limit : ℕ) where
  status_is : (diagnosis_of n desc kept req limit).status ≡ status_of (leb (closure_size n desc req) limit)
  unfolding diagnosis_of diagnosis
  status_is = refl

  -- a status tells whether the set is within the limit
  pub diagnosis_tells : (s : SelectedInverseStatus) → (diagnosis_of n desc kept req limit).status ≡ s → leb (closure_size n desc req) limit ≡ complete_of s
  diagnosis_tells s e = sym (complete_status (leb (closure_size n desc req) limit)) ∙ ap complete_of (sym status_is ∙ e)

  pub diagnosis_complete : ((diagnosis_of n desc kept req limit).status ≡ Complete) ↔ (closure_size n desc req ≤ limit)
  diagnosis_complete = ((λ e. leb-true _ _ (diagnosis_tells Complete e)), (λ h. status_is ∙ ap status_of (le-leb _ _ h)))

-- ---- of a selection
module _ (x : Selection) where
  pub status_tells : (s : SelectedInverseStatus) → (selected_answer x).status ≡ s → selected_complete x ≡ complete_of s
  status_tells = diagnosis_tells x.factor.n (selected_pattern x) _ x.requests x.limit

  pub selected_complete_lem : ((selected_answer x).status ≡ Complete) ↔ (selected_size x ≤ x.limit)
  selected_complete_lem = diagnosis_complete x.factor.n (selected_pattern x) _ x.requests x.limit

  -- its counts
  pub factor_pairs_are : (selected_answer x).factor_pairs ≡ kept_pairs x.factor.n x.factor.starts x.factor.rows x.factor.values x.form
  unfolding diagnosis_of diagnosis
  factor_pairs_are = refl

  pub closure_pairs_are : (selected_answer x).closure_pairs ≡ min (selected_size x) (x.limit + 1)
  unfolding diagnosis_of diagnosis
  closure_pairs_are = refl
