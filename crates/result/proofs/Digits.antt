-- Laws of specs/Digits.antt.
use Rattle.std.specs.Prelude.{ℕ, zero, suc, ◌-◌, ◌*◌, ◌/◌, ◌^◌, ◌≤◌, ◌<◌, ◌≡◌, refl}
use Rattle.std.proofs.Common.{arith, pow-suc}
use Rattle.result.specs.Digits.{digits_in, binary_digits}

digits_in_below : (k m : ℕ) → m ≤ k → m < 2 ^ digits_in k m
unfolding digits_in
digits_in_below zero m h = omega arith
digits_in_below (suc k) zero h = omega arith
digits_in_below (suc k) (suc m) h =
    let l : suc m / 2 < 2 ^ digits_in k (suc m / 2) = digits_in_below k (suc m / 2) (omega arith) in
    let q : 2 ^ suc (digits_in k (suc m / 2)) ≡ 2 ^ digits_in k (suc m / 2) * 2 = pow-suc 2 (digits_in k (suc m / 2)) in
    omega (arith, l, q)

digits_in_zero : (k : ℕ) → digits_in k 0 ≡ 0
unfolding digits_in
digits_in_zero zero = refl
digits_in_zero (suc k) = refl

digits_in_above : (k m : ℕ) → m ≤ k → 0 < m → 2 ^ digits_in k m ≤ 2 * m
unfolding digits_in
digits_in_above zero m h p = absurd (omega arith)
digits_in_above (suc k) zero h p = absurd (omega arith)
digits_in_above (suc k) (suc m) h p = go (suc m / 2) refl (λ q. digits_in_above k (suc m / 2) (omega arith) q)
  where
    go : (n : ℕ) → suc m / 2 ≡ n → (0 < suc m / 2 → 2 ^ digits_in k (suc m / 2) ≤ 2 * (suc m / 2)) → 2 ^ suc (digits_in k n) ≤ 2 * suc m
    go zero e f = rw (digits_in_zero k) (omega arith)
    go (suc n) e f =
        let l : 2 ^ digits_in k (suc n) ≤ 2 * suc n = rw e at (f (omega (arith, e))) in
        let q : 2 ^ suc (digits_in k (suc n)) ≡ 2 ^ digits_in k (suc n) * 2 = pow-suc 2 (digits_in k (suc n)) in
        omega (arith, l, q, e)

-- a number is below two to the count of its digits
pub digits_below : (m : ℕ) → m < 2 ^ binary_digits m
digits_below m = digits_in_below m m (omega arith)

-- and, unless it is 0, not below two to one less
pub digits_above : (m : ℕ) → 0 < m → 2 ^ (binary_digits m - 1) ≤ m
digits_above m h = go (binary_digits m) (digits_in_above m m (omega arith) h)
  where
    go : (d : ℕ) → 2 ^ d ≤ 2 * m → 2 ^ (d - 1) ≤ m
    go zero l = omega arith
    go (suc d) l =
        let q : 2 ^ suc d ≡ 2 ^ d * 2 = pow-suc 2 d in
        let z : suc d - 1 ≡ d = omega arith in
        rw z (omega (arith, l, q))
