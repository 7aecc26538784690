-- Patterns that agree on the columns have one diagnosis; that of floats and that of whole numbers by the test over both lists.
-- Assumes nothing.
use Rattle.std.specs.Prelude.{ℕ, ◌<◌, ◌≡◌, refl, Bool, List, [], length, Float, ℤ}
use Rattle.std.proofs.Common.{arith, ◌∙◌}
use Rattle.columns.specs.Factor.{Factor}
use Rattle.columns.specs.Kept.{nonzero, pattern}
use Rattle.columns.specs.WholeFactor.{whole_nonzero, whole_pattern}
use Rattle.kept_entries.proofs.KeptBy.{kept_at, kept_floats, kept_wholes, factor_rows, pattern_same}
use Rattle.closed_set.proofs.ClosedSet.{member_cong}
use Rattle.closed_set.specs.Size.{closure_size}
use Rattle.closed_set.proofs.Size.{closure_size_cong}
use Rattle.diagnostics.specs.declared.SelectedInverseDiagnostics.{SelectedInverseDiagnostics}
use Rattle.selection.proofs.Diagnosis.{diagnosis_of_same}
use Rattle.closure.specs.Closure.{ClosureInput, Closing, Diagnoses}

module _ {n : ℕ} {desc desc' : ℕ → List ℕ} (same : (c : ℕ) → c < n → desc c ≡ desc' c) where
  size_same : (req : ℕ → ℕ → Bool) → closure_size n desc req ≡ closure_size n desc' req
  size_same req = closure_size_cong n desc desc' req req same (λ r c h l. refl)

  closing_same : {req : ℕ → ℕ → Bool} {limit : ℕ} {s₀ stops s : List ℕ} → Closing n desc req limit s₀ stops s → Closing n desc' req limit s₀ stops s
  closing_same {req} L = record {
    long = L.long;
    marks = λ low r c h l. L.marks (omega (arith, size_same req)) r c h l ∙ member_cong n desc desc' req req same (λ a b o m. refl) r c h l;
    reached = λ low. L.reached (omega (arith, size_same req));
    later = L.later;
  }

  pub diagnoses_same : {kept limit : ℕ} {s₀ : List ℕ} {d : SelectedInverseDiagnostics} {stops s : List ℕ} → Diagnoses n desc kept limit s₀ d stops s
      → Diagnoses n desc' kept limit s₀ d stops s
  diagnoses_same {kept} {limit} D = record {
    answers = λ req R. D.answers req R ∙ diagnosis_of_same n desc desc' same req limit refl;
    leaves = λ req R. closing_same (D.leaves req R);
  }

-- a factor's values are as many as its rows
pub closure_rows : {n : ℕ} {starts rows : List ℕ} {values requested : ℕ} {stops s : List ℕ} → ClosureInput n starts rows values requested stops s
    → ClosureInput n starts rows (length rows) requested stops s
closure_rows G = record {
  small = G.small;
  factor = factor_rows G.factor;
  unlisted = G.unlisted;
  marked = G.marked;
}

-- the diagnosis of a factor of floats, by its values and no whole number
pub diagnoses_floats : {n : ℕ} {starts rows : List ℕ} (values : List Float) (wholes : List ℤ) → Factor n starts rows (length values) → length wholes ≡ 0
    → {kept limit : ℕ} {s₀ : List ℕ} {d : SelectedInverseDiagnostics} {stops s : List ℕ}
    → Diagnoses n (pattern starts rows (kept_at values wholes)) kept limit s₀ d stops s → Diagnoses n (pattern starts rows (nonzero values)) kept limit s₀ d stops s
diagnoses_floats values wholes F none =
    diagnoses_same (pattern_same F (kept_at values wholes) (nonzero values) (λ p l. kept_floats values wholes p none))

-- and of one of whole numbers, by these and no float
pub diagnoses_wholes : {n : ℕ} {starts rows : List ℕ} (values : List ℤ) → Factor n starts rows (length values)
    → {kept limit : ℕ} {s₀ : List ℕ} {d : SelectedInverseDiagnostics} {stops s : List ℕ}
    → Diagnoses n (pattern starts rows (kept_at [] values)) kept limit s₀ d stops s → Diagnoses n (whole_pattern starts rows values) kept limit s₀ d stops s
diagnoses_wholes values F =
    diagnoses_same (pattern_same F (kept_at [] values) (whole_nonzero values) (λ p l. kept_wholes [] values p (λ e. omega (arith, e, l, F.valued))))
