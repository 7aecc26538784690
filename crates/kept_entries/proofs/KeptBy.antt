-- Which stored values are not 0, by two lists of which the one of whole numbers may be empty, and that it comes to the test of the list that tells.
-- Assumes nothing.
use Rattle.std.specs.Prelude.{ℕ, ◌+◌, ◌≤◌, ◌<◌, ◌≡◌, refl, Bool, ◌&&◌, List, map, ltb, eqb, Float, ℤ}
use Rattle.std.proofs.Common.{arith, eq-eqb, ne_eqb}
use Rattle.std.proofs.Math.Path.{ap}
use Rattle.std.proofs.Math.Bool.{cond}
use Rattle.std.proofs.Math.Dec.{leb}
use Rattle.std.proofs.Math.ListN.{length}
use Rattle.lists.specs.Select.{select_cong}
use Rattle.lists.specs.Sum.{sum_to_eq}
use Rattle.columns.specs.Columns.{start, row}
use Rattle.columns.specs.Kept.{nonzero, kept, kept_below, kept_count, pattern, factor_pairs}
use Rattle.columns.specs.Factor.{Factor}
use Rattle.columns.proofs.Factor.{starts_end}
use Rattle.columns.specs.WholeFactor.{whole_nonzero}

-- the value at p is not 0: by the floats where no whole number is lent, else by these
unfoldable pub kept_at : List Float → List ℤ → ℕ → Bool
kept_at floats wholes p = cond (eqb (length wholes) 0) (nonzero floats p) (whole_nonzero wholes p)

-- the list that tells reaches past p
pub record Within (p : ℕ) (floats : List Float) (wholes : List ℤ) : Type 0 where
  pub by_floats : length wholes ≡ 0 → p < length floats
  pub by_wholes : 0 < length wholes → p < length wholes

-- it has a value for each of m places
pub record ValuesLent (m : ℕ) (floats : List Float) (wholes : List ℤ) : Type 0 where
  pub by_floats : length wholes ≡ 0 → m ≤ length floats
  pub by_wholes : 0 < length wholes → m ≤ length wholes

pub lent_within : {m : ℕ} {floats : List Float} {wholes : List ℤ} → ValuesLent m floats wholes → (p : ℕ) → p < m → Within p floats wholes
lent_within L p l = record { by_floats = λ e. omega (arith, L.by_floats e); by_wholes = λ h. omega (arith, L.by_wholes h) }

module _ (floats : List Float) (wholes : List ℤ) (p : ℕ) where
  -- floats alone
  pub kept_floats : length wholes ≡ 0 → kept_at floats wholes p ≡ nonzero floats p
  unfolding kept_at
  kept_floats e = ap (λ (b : Bool). cond b (nonzero floats p) (whole_nonzero wholes p)) (eq-eqb (length wholes) 0 e)

  -- whole numbers
  pub kept_wholes : (length wholes ≡ 0 → ⊥) → kept_at floats wholes p ≡ whole_nonzero wholes p
  unfolding kept_at
  kept_wholes d = ap (λ (b : Bool). cond b (nonzero floats p) (whole_nonzero wholes p)) (ne_eqb (length wholes) 0 d)

-- a factor's values are as many as its rows
pub factor_rows : {n : ℕ} {starts rows : List ℕ} {values : ℕ} → Factor n starts rows values → Factor n starts rows (length rows)
factor_rows F = record { starts_rise = F.starts_rise; rows_ascend = F.rows_ascend; valued = refl }

-- ---- the pattern needs the test at the stored places alone
module _ {n : ℕ} {starts rows : List ℕ} {values : ℕ} (F : Factor n starts rows values) (nz nz' : ℕ → Bool)
    (same : (p : ℕ) → p < length rows → nz p ≡ nz' p) where
  pub pattern_same : (c : ℕ) → c < n → pattern starts rows nz c ≡ pattern starts rows nz' c
  pattern_same c h =
      ap (map (row rows))
      (select_cong (kept_below rows nz c) (kept_below rows nz' c) (start starts c) (start starts (c + 1))
      (λ p lo hi. ap (λ (b : Bool). ltb c (row rows p) && b) (same p (omega (arith, starts_end F.starts_rise (c + 1) (omega arith))))))

  -- and so does the count of kept entries
  pub factor_pairs_same : factor_pairs starts rows nz n ≡ factor_pairs starts rows nz' n
  unfolding factor_pairs
  factor_pairs_same =
      sum_to_eq (kept_count starts rows nz) (kept_count starts rows nz') n
      (λ c h.
      ap length
      (select_cong (kept rows nz c) (kept rows nz' c) (start starts c) (start starts (c + 1))
      (λ p lo hi. ap (λ (b : Bool). leb c (row rows p) && b) (same p (omega (arith, starts_end F.starts_rise (c + 1) (omega arith)))))))
