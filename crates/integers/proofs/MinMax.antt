-- Laws of specs/MinMax.antt.
use Rattle.std.specs.Prelude.{◌≡◌, refl, Bool, true, false, cond, ℤ, ◌≤ℤ◌}
use Rattle.std.proofs.Common.{ap}
use Rattle.std.specs.Int.Signed.{le_z, ≤ℤ_refl}
use Rattle.integers.proofs.Order.{le_yes, le_no}
use Rattle.integers.specs.MinMax.{minℤ, maxℤ}

module _ (a b : ℤ) where
  pub minℤ_left : minℤ a b ≤ℤ a
  minℤ_left = go (le_z a b) refl
    where
      go : (t : Bool) → le_z a b ≡ t → cond t a b ≤ℤ a
      go true e = ≤ℤ_refl a
      go false e = le_no a b e

  pub minℤ_right : minℤ a b ≤ℤ b
  minℤ_right = go (le_z a b) refl
    where
      go : (t : Bool) → le_z a b ≡ t → cond t a b ≤ℤ b
      go true e = le_yes e
      go false e = ≤ℤ_refl b

  pub maxℤ_left : a ≤ℤ maxℤ a b
  maxℤ_left = go (le_z a b) refl
    where
      go : (t : Bool) → le_z a b ≡ t → a ≤ℤ cond t b a
      go true e = le_yes e
      go false e = ≤ℤ_refl a

  pub maxℤ_right : b ≤ℤ maxℤ a b
  maxℤ_right = go (le_z a b) refl
    where
      go : (t : Bool) → le_z a b ≡ t → b ≤ℤ cond t b a
      go true e = ≤ℤ_refl b
      go false e = le_no a b e

  -- a fact of both numbers is one of the lesser and of the greater
  pub minℤ_both : (P : ℤ → Type 0) → P a → P b → P (minℤ a b)
  minℤ_both P p q = go (le_z a b)
    where
      go : (t : Bool) → P (cond t a b)
      go true = p
      go false = q

  pub maxℤ_both : (P : ℤ → Type 0) → P a → P b → P (maxℤ a b)
  maxℤ_both P p q = go (le_z a b)
    where
      go : (t : Bool) → P (cond t b a)
      go true = q
      go false = p

  pub minℤ_most : {c : ℤ} → c ≤ℤ a → c ≤ℤ b → c ≤ℤ minℤ a b
  minℤ_most {c} p q = minℤ_both (λ x. c ≤ℤ x) p q

  pub maxℤ_least : {c : ℤ} → a ≤ℤ c → b ≤ℤ c → maxℤ a b ≤ℤ c
  maxℤ_least {c} p q = maxℤ_both (λ x. x ≤ℤ c) p q

  -- a test decides
  pub minℤ_yes : le_z a b ≡ true → minℤ a b ≡ a
  minℤ_yes e = ap (λ (t : Bool). cond t a b) e

  pub minℤ-no : le_z a b ≡ false → minℤ a b ≡ b
  minℤ-no e = ap (λ (t : Bool). cond t a b) e

  pub maxℤ_yes : le_z a b ≡ true → maxℤ a b ≡ b
  maxℤ_yes e = ap (λ (t : Bool). cond t b a) e

  pub maxℤ-no : le_z a b ≡ false → maxℤ a b ≡ a
  maxℤ-no e = ap (λ (t : Bool). cond t b a) e

-- of a number with itself
pub minℤ_same : (a : ℤ) → minℤ a a ≡ a
minℤ_same a = minℤ_both a a (λ x. x ≡ a) refl refl

pub maxℤ_same : (a : ℤ) → maxℤ a a ≡ a
maxℤ_same a = maxℤ_both a a (λ x. x ≡ a) refl refl
