-- Laws of specs/Diagnosis.antt.
use Rattle.std.specs.Prelude.{ℕ, ◌≤◌, ◌<◌, ◌≡◌, refl, Bool, List}
use Rattle.std.proofs.Math.Path.{ap₂}
use Rattle.columns.specs.Kept.{pattern}
use Rattle.columns.specs.Factor.{Factor}
use Rattle.columns.proofs.Pattern.{pattern_cong}
use Rattle.closed_set.specs.ClosedSet.{member}
use Rattle.closed_set.proofs.ClosedSet.{member_cong}
use Rattle.closed_set.specs.Size.{closure_size, requested_pairs}
use Rattle.closed_set.proofs.Size.{closure_size_cong}
use Rattle.closed_set.specs.KeptSet.{SameKept}
use Rattle.selection.specs.Diagnosis.{diagnosed, diagnosis_of}

-- ---- equal patterns

module _ (n : ℕ) (desc desc' : ℕ → List ℕ) (same : (c : ℕ) → c < n → desc c ≡ desc' c) (req : ℕ → ℕ → Bool) where
  -- have the same closed set
  pub member_same : (r c : ℕ) → c ≤ r → r < n → member n desc req r c ≡ member n desc' req r c
  member_same = member_cong n _ _ req req same (λ r c h l. refl)

  -- of the same size
  size_same : closure_size n desc req ≡ closure_size n desc' req
  size_same = closure_size_cong n desc desc' req req same (λ r c h l. refl)

  -- and, with equal counts, the same diagnosis
  pub diagnosis_of_same : {kept kept' : ℕ} (limit : ℕ) → kept ≡ kept' → diagnosis_of n desc kept req limit ≡ diagnosis_of n desc' kept' req limit
  unfolding diagnosis_of
  diagnosis_of_same limit count = ap₂ (λ (size factor : ℕ). diagnosed (requested_pairs n req) size factor limit) size_same count

-- factors of one dimension with equal kept positions have equal patterns
pub kept_pattern : {n : ℕ} {starts rows starts' rows' : List ℕ} {m m' : ℕ} (nz nz' : ℕ → Bool) → Factor n starts rows m → Factor n starts' rows' m'
    → SameKept n starts rows nz starts' rows' nz' → (c : ℕ) → c < n → pattern starts rows nz c ≡ pattern starts' rows' nz' c
kept_pattern nz nz' F F' same c h = pattern_cong nz nz' F.starts_rise F.rows_ascend F'.starts_rise F'.rows_ascend c h (λ r. same r c h)
