-- A signed 64-bit number is held by its bits: what is read back is the number, where it is at most 2 ^ 62 in size; and tests of the bits.
-- Assumes nothing.
use Rattle.std.specs.Prelude.{ℕ, suc, ◌≤◌, ◌≡◌, refl, Bool, true, false, ltb, eqb, ℤ, pos, negsuc, nat_abs}
use Rattle.std.proofs.Common.{arith, sym, ap, ap₂, ◌∙◌, SFits, to_z, of_z, lt-ltb, le-ltb, ltb-true, ltb-false, eq-eqb, eqb-true}
use Rattle.std.proofs.lemmas.Bool.{false≢true}
use Rattle.std.specs.Int.Signed.{lt_z}
use Rattle.std.specs.Int.{w64}
use Rattle.std.proofs.lemmas.Int.{to_z-of_z}
use Rattle.lists.specs.Test.{same_truth}
use Rattle.integers.proofs.Integer.{nat_abs_zero}
use Rattle.integers.specs.Size.{SizeWithin}
use Rattle.integers.proofs.Size.{size_fits, size_more, size_is}
use Rattle.columns.specs.WholeFactor.{is_one}
use Rattle.columns.proofs.WholeFactor.{one_is}

-- z, known to be y, fits
pub fits_as : {z y : ℤ} {k : ℕ} → k ≤ 4611686018427387904 → z ≡ y → SizeWithin k y → SFits w64 z
fits_as b e h = size_fits (size_more (size_is (sym e) h) b)

-- z read back is y
pub held : {z y : ℤ} {k : ℕ} → k ≤ 4611686018427387904 → z ≡ y → SizeWithin k y → to_z w64 (of_z w64 z) ≡ y
held {z} b e h = to_z-of_z w64 z (fits_as b e h) ∙ e

-- an operation on two numbers that are read back fits where it does on the numbers
pub fits_both : (op : ℤ → ℤ → ℤ) {x y a b : ℤ} {k : ℕ} → x ≡ a → y ≡ b → k ≤ 4611686018427387904 → SizeWithin k (op a b) → SFits w64 (op x y)
fits_both op e f b h = fits_as b (ap₂ op e f) h

-- the bits of a number are 0 exactly if it is
pub bits_zero : (z : ℤ) → SFits w64 z → eqb (of_z w64 z) 0 ≡ eqb (nat_abs z) 0
bits_zero z f =
    same_truth (eqb (of_z w64 z) 0) (eqb (nat_abs z) 0)
    (λ e. eq-eqb (nat_abs z) 0 (ap nat_abs (sym (to_z-of_z w64 z f) ∙ ap (to_z w64) (eqb-true (of_z w64 z) 0 e))))
    (λ e. eq-eqb (of_z w64 z) 0 (ap (of_z w64) (nat_abs_zero z (eqb-true (nat_abs z) 0 e))))

-- and 1 exactly if it is
pub bits_one : (z : ℤ) → SFits w64 z → eqb (of_z w64 z) 1 ≡ is_one z
bits_one z f =
    same_truth (eqb (of_z w64 z) 1) (is_one z)
    (λ e. ap is_one (sym (to_z-of_z w64 z f) ∙ ap (to_z w64) (eqb-true (of_z w64 z) 1 e)))
    (λ e. eq-eqb (of_z w64 z) 1 (ap (of_z w64) (one_is z e)))

-- a number is beyond a size exactly if it is above it or below its negative
pub beyond_above : (m : ℕ) (z : ℤ) → lt_z (pos m) z ≡ true → ltb m (nat_abs z) ≡ true
beyond_above m (pos n) e = e
beyond_above m (negsuc n) e = absurd (false≢true e)

pub beyond_below : (m : ℕ) (z : ℤ) → lt_z (pos (suc m)) z ≡ false → lt_z z (negsuc m) ≡ ltb (suc m) (nat_abs z)
beyond_below m (pos n) e = sym e
beyond_below m (negsuc n) e = same (ltb m n) refl
  where
    same : (b : Bool) → ltb m n ≡ b → ltb m n ≡ ltb (suc m) (suc n)
    same true p = p ∙ sym (lt-ltb (suc m) (suc n) (let l = ltb-true m n p in omega arith))
    same false p = p ∙ sym (le-ltb (suc m) (suc n) (let l = ltb-false m n p in omega arith))

-- and what is read back is of its size
pub held_size : {z y : ℤ} {k : ℕ} → k ≤ 4611686018427387904 → z ≡ y → SizeWithin k y → SizeWithin k (to_z w64 (of_z w64 z))
held_size b e h = size_is (sym (held b e h)) h
