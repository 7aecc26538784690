-- Sums of the first values of a function on numbers.
-- Assumes nothing.
use Prim.Native.Nat.{ℕ, zero, suc, ◌+◌, ◌-◌, ◌≤◌, ◌<◌}
use native.Mathlib.Omega.{arith}
use Rattle.std.proofs.Common.{not-suc-le-zero, eq-or-lt_of_le, le_of_suc-le-suc, add-suc, add-zero, ap, ap₂}
use Rattle.std.proofs.Math.Numerals.{add-one}
use Rattle.std.specs.Prelude.{◌≡◌, Bool, true, false, ◌≢◌}
use Rattle.std.proofs.Math.Path.{refl, subst}
use Rattle.std.proofs.Math.Logic.{⊎_elim}

-- 1 for true, 0 for false
abbrev pub bit : Bool → ℕ
bit true = 1
bit false = 0

-- the sum of the first n values
unfoldable pub sum_to : (ℕ → ℕ) → ℕ → ℕ
sum_to f zero = 0
sum_to f (suc k) = sum_to f k + f k

pub bit_most : (b : Bool) → bit b ≤ 1
bit_most true = omega arith
bit_most false = omega arith

module _ (f : ℕ → ℕ) where
  pub sum_to_none : sum_to f 0 ≡ 0
  unfolding sum_to
  sum_to_none = refl

  pub sum_to_next : (k : ℕ) → sum_to f (k + 1) ≡ sum_to f k + f k
  unfolding sum_to
  sum_to_next k = rw add-one

  -- a sum in two parts
  pub sum_to_add : (a b : ℕ) → sum_to f (a + b) ≡ sum_to f a + sum_to (λ i. f (a + i)) b
  unfolding sum_to
  sum_to_add a zero = rw (add-zero a) (omega arith)
  sum_to_add a (suc b) = rw (add-suc a b) (omega (arith, sum_to_add a b))

  -- sums rise
  pub sum_to_mono : (a e : ℕ) → a ≤ e → sum_to f a ≤ sum_to f e
  sum_to_mono a e h =
      let q : a + (e - a) ≡ e = omega arith in
      omega (arith, sum_to_add a (e - a), ap (sum_to f) q)

  pub sum_to_zero : (k : ℕ) → ((i : ℕ) → i < k → f i ≡ 0) → sum_to f k ≡ 0
  unfolding sum_to
  sum_to_zero zero h = refl
  sum_to_zero (suc k) h = omega (arith, sum_to_zero k (λ i l. h i (omega arith)), h k (omega arith))

  -- where each is at most 1, the sum is at most how many there are
  pub sum_to_most : (k : ℕ) → ((i : ℕ) → i < k → f i ≤ 1) → sum_to f k ≤ k
  unfolding sum_to
  sum_to_most zero h = omega arith
  sum_to_most (suc k) h = omega (arith, sum_to_most k (λ i l. h i (omega arith)), h k (omega arith))

  -- and less where one is 0
  pub sum_to_room : (k p : ℕ) → p < k → f p ≡ 0 → ((i : ℕ) → i < k → f i ≤ 1) → sum_to f k < k
  unfolding sum_to
  sum_to_room zero p l a h = absurd (not-suc-le-zero l)
  sum_to_room (suc k) p l a h =
      ⊎_elim
      (λ e. let a' = subst (λ (j : ℕ). f j ≡ 0) e a in omega (arith, sum_to_most k (λ i m. h i (omega arith))))
      (λ q. omega (arith, sum_to_room k p q a (λ i m. h i (omega arith)), h k (omega arith)))
      (eq-or-lt_of_le (le_of_suc-le-suc l))

pub sum_to_eq : (f g : ℕ → ℕ) (n : ℕ) → ((k : ℕ) → k < n → f k ≡ g k) → sum_to f n ≡ sum_to g n
unfolding sum_to
sum_to_eq f g zero h = refl
sum_to_eq f g (suc n) h = ap₂ ◌+◌ (sum_to_eq f g n (λ k l. h k (omega arith))) (h n (omega arith))

pub sum_to_le : (f g : ℕ → ℕ) (n : ℕ) → ((k : ℕ) → k < n → f k ≤ g k) → sum_to f n ≤ sum_to g n
unfolding sum_to
sum_to_le f g zero h = omega arith
sum_to_le f g (suc n) h = omega (arith, sum_to_le f g n (λ k l. h k (omega arith)), h n (omega arith))

-- one value goes from 0 to 1
pub sum_to_one : (f g : ℕ → ℕ) (k p : ℕ) → p < k → f p ≡ 0 → g p ≡ 1 → ((i : ℕ) → i < k → i ≢ p → g i ≡ f i) → sum_to g k ≡ sum_to f k + 1
unfolding sum_to
sum_to_one f g zero p l a b h = absurd (not-suc-le-zero l)
sum_to_one f g (suc k) p l a b h =
    ⊎_elim
    (λ e.
    let a' = subst (λ (j : ℕ). f j ≡ 0) e a in
    let b' = subst (λ (j : ℕ). g j ≡ 1) e b in
    omega (arith, sum_to_eq g f k (λ i m. h i (omega arith) (omega arith))))
    (λ q. omega (arith, sum_to_one f g k p q a b (λ i m d. h i (omega arith) d), h k (omega arith) (omega arith)))
    (eq-or-lt_of_le (le_of_suc-le-suc l))
