-- Whether a test holds of some number below an end, or between two ends.
-- Assumes nothing.
use Prim.Native.Nat.{ℕ, zero, suc, ◌+◌, ◌-◌, ◌≤◌, ◌<◌}
use native.Mathlib.Omega.{arith}
use Rattle.std.proofs.Common.{not-suc-le-zero, eq-or-lt_of_le, le_of_suc-le-suc, ◌∙◌, true≢false, inl, inr}
use Rattle.std.proofs.Math.Numerals.{add-one}
use Rattle.std.specs.Prelude.{◌≡◌, Bool, ◌&&◌, ◌||◌, ◌⊎◌}
use Rattle.std.proofs.Math.Path.{refl, sym, ap, subst}
use Rattle.std.proofs.Math.Bool.{true, false, or-true}
use Rattle.std.proofs.lemmas.Bool.{false≢true}
use Rattle.std.proofs.Math.Logic.{⊎_elim}

-- the test holds of a number below n
unfoldable pub any : (ℕ → Bool) → ℕ → Bool
any test zero = false
any test (suc k) = any test k || test k

-- the test holds of a number from s to below e
unfoldable pub any_in : (ℕ → Bool) → ℕ → ℕ → Bool
any_in test s e = any (λ k. test (s + k)) (e - s)

-- ---- both, and either

pub and_left : (a b : Bool) → (a && b) ≡ true → a ≡ true
and_left true b e = refl
and_left false b e = e

pub and_right : (a b : Bool) → (a && b) ≡ true → b ≡ true
and_right true b e = e
and_right false b e = absurd (false≢true e)

pub and_both : (a b : Bool) → a ≡ true → b ≡ true → (a && b) ≡ true
and_both true b p q = q
and_both false b p q = p

pub or_cases : (a b : Bool) → (a || b) ≡ true → (a ≡ true) ⊎ (b ≡ true)
or_cases true b e = inl refl
or_cases false b e = inr e

pub or_left : (a b : Bool) → a ≡ true → (a || b) ≡ true
or_left true b e = refl
or_left false b e = absurd (false≢true e)

pub or_right : (a b : Bool) → b ≡ true → (a || b) ≡ true
or_right true b e = refl
or_right false b e = e

pub or_neither_left : (a b : Bool) → (a || b) ≡ false → a ≡ false
or_neither_left true b e = e
or_neither_left false b e = refl

pub or_neither_right : (a b : Bool) → (a || b) ≡ false → b ≡ false
or_neither_right true b e = absurd (true≢false e)
or_neither_right false b e = e

-- two tests that hold of the same are equal
pub same_truth : (a b : Bool) → (a ≡ true → b ≡ true) → (b ≡ true → a ≡ true) → a ≡ b
same_truth true true f g = refl
same_truth true false f g = sym (f refl)
same_truth false true f g = g refl
same_truth false false f g = refl

-- what is not true is false
pub not_so : (a : Bool) → (a ≡ true → ⊥) → a ≡ false
not_so true f = absurd (f refl)
not_so false f = refl

-- ---- below an end
module _ (test : ℕ → Bool) where
  pub any_none : any test 0 ≡ false
  unfolding any
  any_none = refl

  -- one more number
  pub any_next : (k : ℕ) → any test (k + 1) ≡ (any test k || test k)
  unfolding any
  any_next k = rw add-one

  -- one more that it does not hold of
  pub any_more : (k : ℕ) → any test k ≡ false → test k ≡ false → any test (k + 1) ≡ false
  unfolding any
  any_more k e h = rw (add-one, e, h)

  -- one that it holds of
  pub any-hit : (n k : ℕ) → k < n → test k ≡ true → any test n ≡ true
  unfolding any
  any-hit zero k l h = absurd (not-suc-le-zero l)
  any-hit (suc n) k l h =
      ⊎_elim
      (λ q. subst (λ (j : ℕ). (any test n || test j) ≡ true) q (rw h (or-true (any test n))))
      (λ lt. rw (any-hit n k lt h))
      (eq-or-lt_of_le (le_of_suc-le-suc l))

  -- where it holds of none, not of this one
  pub any_below : (n k : ℕ) → any test n ≡ false → k < n → test k ≡ false
  unfolding any
  any_below zero k e l = absurd (not-suc-le-zero l)
  any_below (suc n) k e l =
      ⊎_elim
      (λ q. subst (λ (j : ℕ). test j ≡ false) (sym q) (or_neither_right (any test n) (test n) e))
      (λ lt. any_below n k (or_neither_left (any test n) (test n) e) lt)
      (eq-or-lt_of_le (le_of_suc-le-suc l))

  -- none below an end, so none below an earlier one
  pub any_less : (n m : ℕ) → any test n ≡ false → m ≤ n → any test m ≡ false
  unfolding any
  any_less n zero e h = refl
  any_less n (suc m) e h = rw (any_less n m e (omega arith), any_below n m e h)

  -- none, told number by number
  pub any_all : (n : ℕ) → ((k : ℕ) → k < n → test k ≡ false) → any test n ≡ false
  unfolding any
  any_all zero f = refl
  any_all (suc n) f = rw (any_all n (λ k l. f k (omega arith)), f n (omega arith))

  -- one that it holds of, found
  pub any_found : (n : ℕ) → any test n ≡ true → (k : ℕ) × (k < n) × (test k ≡ true)
  unfolding any
  any_found zero e = absurd (false≢true e)
  any_found (suc n) e = go (any test n) (any_found n) e
    where
      go : (a : Bool) → (a ≡ true → (k : ℕ) × (k < n) × (test k ≡ true)) → (a || test n) ≡ true → (k : ℕ) × (k < suc n) × (test k ≡ true)
      go true f h = let g = f refl in (g.0, omega arith, g.2)
      go false f h = (n, omega arith, h)

-- tests that agree
pub any_cong : (f g : ℕ → Bool) (n : ℕ) → ((k : ℕ) → k < n → f k ≡ g k) → any f n ≡ any g n
any_cong f g n h =
    same_truth (any f n) (any g n)
    (λ e. let w = any_found f n e in any-hit g n w.0 w.1 (sym (h w.0 w.1) ∙ w.2))
    (λ e. let w = any_found g n e in any-hit f n w.0 w.1 (h w.0 w.1 ∙ w.2))

-- ---- between two ends
module _ (test : ℕ → Bool) where
  place : (s k : ℕ) → s ≤ k → test (s + (k - s)) ≡ test k
  place s k h = let q : s + (k - s) ≡ k = omega arith in ap test q

  pub any_in_none : (s : ℕ) → any_in test s s ≡ false
  unfolding any_in
  any_in_none s = let q : s - s ≡ 0 = omega arith in rw q (any_none _)

  -- from 0 on
  pub any_in_zero : (e : ℕ) → any_in test 0 e ≡ any test e
  unfolding any_in
  any_in_zero e =
      let q : e - 0 ≡ e = omega arith in
      rw q (any_cong (λ k. test (0 + k)) test e (λ k l. let z : 0 + k ≡ k = omega arith in ap test z))

  pub any_in_next : (s k : ℕ) → s ≤ k → any_in test s (k + 1) ≡ (any_in test s k || test k)
  unfolding any_in
  any_in_next s k h =
      let q : (k + 1) - s ≡ (k - s) + 1 = omega arith in
      rw q (any_next (λ j. test (s + j)) (k - s) ∙ ap (λ (b : Bool). any (λ j. test (s + j)) (k - s) || b) (place s k h))

  pub any_in_more : (s k : ℕ) → s ≤ k → any_in test s k ≡ false → test k ≡ false → any_in test s (k + 1) ≡ false
  any_in_more s k h e t = any_in_next s k h ∙ rw (e, t)

  pub any_in-hit : (s e k : ℕ) → s ≤ k → k < e → test k ≡ true → any_in test s e ≡ true
  unfolding any_in
  any_in-hit s e k h l t = any-hit (λ j. test (s + j)) (e - s) (k - s) (omega arith) (place s k h ∙ t)

  pub any_in_below : (s e k : ℕ) → any_in test s e ≡ false → s ≤ k → k < e → test k ≡ false
  unfolding any_in
  any_in_below s e k n h l = sym (place s k h) ∙ any_below (λ j. test (s + j)) (e - s) (k - s) n (omega arith)

  pub any_in_all : (s e : ℕ) → ((k : ℕ) → s ≤ k → k < e → test k ≡ false) → any_in test s e ≡ false
  unfolding any_in
  any_in_all s e f = any_all (λ k. test (s + k)) (e - s) (λ k l. f (s + k) (omega arith) (omega arith))

  pub any_in_found : (s e : ℕ) → any_in test s e ≡ true → (k : ℕ) × (s ≤ k) × (k < e) × (test k ≡ true)
  unfolding any_in
  any_in_found s e h =
      let f = any_found (λ j. test (s + j)) (e - s) h in
      let l : f.0 < e - s = f.1 in
      (s + f.0, omega arith, omega arith, f.2)
