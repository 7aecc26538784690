-- Laws of specs/Size.antt.
use Rattle.std.specs.Prelude.{ℕ, zero, suc, ◌+◌, ◌-◌, ◌*◌, ◌≤◌, ◌<◌, ◌≡◌, refl, Bool, true, false, cond, ltb, ℤ, pos, negsuc, neg_ℤ, nat_abs, ◌+ℤ◌, ◌-ℤ◌, ◌*ℤ◌}
use Rattle.std.proofs.Common.{arith, le_trans, le_refl, lt_of_le_of_lt, mul-le-mul, sym, ap, subst, ◌∙◌, true≢false, SFits, ltb-true, le-ltb}
use Rattle.std.proofs.Math.Nat.{le_step}
use Rattle.std.proofs.Math.IntN.{sub_ℕ}
use Rattle.std.specs.Int.Signed.{mag, lt_z}
use Rattle.std.specs.Int.{w64}
use Rattle.integers.proofs.Integer.{nat_abs_*, nat_abs_neg}
use Rattle.integers.specs.Sum.{Σℤ}
use Rattle.integers.specs.MinMax.{minℤ, maxℤ}
use Rattle.integers.proofs.MinMax.{minℤ_both, maxℤ_both}
use Rattle.integers.specs.Size.{SizeWithin}

mag_most : (z : ℤ) → mag z ≤ nat_abs z
mag_most (pos n) = le_refl n
mag_most (negsuc n) = le_step (le_refl n)

-- a number of at most 2^62 in size fits
pub size_fits : {z : ℤ} → SizeWithin 4611686018427387904 z → SFits w64 z
size_fits {z} h = record { sfits = lt_of_le_of_lt (mag_most z) (lt_of_le_of_lt h.size (omega arith)) }

pub size_more : {z : ℤ} {a b : ℕ} → SizeWithin a z → a ≤ b → SizeWithin b z
size_more h l = record { size = le_trans h.size l }

pub size_is : {y z : ℤ} {b : ℕ} → y ≡ z → SizeWithin b y → SizeWithin b z
size_is {b = b} e h = subst (SizeWithin b) e h

-- ---- sums
difference_size : (m n : ℕ) → nat_abs (sub_ℕ m n) ≤ m + n
difference_size m n = go (ltb m n) refl
  where
    go : (b : Bool) → ltb m n ≡ b → nat_abs (cond b (negsuc (n - suc m)) (pos (m - n))) ≤ m + n
    go true e = let l = ltb-true m n e in omega arith
    go false e = omega arith

pub sum_size : (a b : ℤ) → nat_abs (a +ℤ b) ≤ nat_abs a + nat_abs b
sum_size (pos m) (pos n) = omega arith
sum_size (pos m) (negsuc n) = difference_size m (suc n)
sum_size (negsuc m) (pos n) = let h = difference_size n (suc m) in omega (arith, h)
sum_size (negsuc m) (negsuc n) = omega arith

pub size_sum : {a b : ℤ} {k l : ℕ} → SizeWithin k a → SizeWithin l b → SizeWithin (k + l) (a +ℤ b)
size_sum {a} {b} h g = record { size = omega (arith, sum_size a b, h.size, g.size) }

pub size_minus : {a b : ℤ} {k l : ℕ} → SizeWithin k a → SizeWithin l b → SizeWithin (k + l) (a -ℤ b)
size_minus {a} {b} h g = record { size = omega (arith, sum_size a (neg_ℤ b), nat_abs_neg b, h.size, g.size) }

-- n terms of at most b each
sums_size : (b n : ℕ) (f : ℕ → ℤ) → ((k : ℕ) → k < n → SizeWithin b (f k)) → nat_abs (Σℤ n f) ≤ n * b
sums_size b zero f h = omega arith
sums_size b (suc n) f h = omega (arith, sum_size (Σℤ n f) (f n), sums_size b n f (λ k l. h k (omega arith)), (h n (omega arith)).size)

pub size_sums : (b n : ℕ) (f : ℕ → ℤ) → ((k : ℕ) → k < n → SizeWithin b (f k)) → SizeWithin (n * b) (Σℤ n f)
size_sums b n f h = record { size = sums_size b n f h }

-- ---- products
pub size_product : {a b : ℤ} {k l : ℕ} → SizeWithin k a → SizeWithin l b → SizeWithin (k * l) (a *ℤ b)
size_product {a} {b} {k} {l} h g = record { size = subst (λ (n : ℕ). n ≤ k * l) (sym (nat_abs_* a b)) (mul-le-mul h.size g.size) }

-- ---- the lesser and the greater
pub size_minℤ : (a b : ℤ) {k : ℕ} → SizeWithin k a → SizeWithin k b → SizeWithin k (minℤ a b)
size_minℤ a b {k} h g = minℤ_both a b (SizeWithin k) h g

pub size_maxℤ : (a b : ℤ) {k : ℕ} → SizeWithin k a → SizeWithin k b → SizeWithin k (maxℤ a b)
size_maxℤ a b {k} h g = maxℤ_both a b (SizeWithin k) h g

-- ---- a number below 0, and one that is not
pub below_zero : (x : ℤ) → lt_z x (pos 0) ≡ true → (negsuc 0 -ℤ x ≡ pos (mag x)) × (nat_abs x ≡ mag x + 1)
below_zero (pos n) e = absurd (let l = ltb-true n 0 e in omega arith)
below_zero (negsuc n) e =
    let p : suc n - 1 ≡ n = omega arith in
    let q : suc n ≡ n + 1 = omega arith in
    (ap (λ (b : Bool). cond b (negsuc (1 - suc (suc n))) (pos (suc n - 1))) (le-ltb (suc n) 1 (omega arith)) ∙ ap pos p, q)

pub not_below_zero : (x : ℤ) → lt_z x (pos 0) ≡ false → x ≡ pos (nat_abs x)
not_below_zero (pos n) e = refl
not_below_zero (negsuc n) e = absurd (true≢false e)
