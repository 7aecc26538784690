-- Laws of specs/Least.antt.
use Rattle.std.specs.Prelude.{ℕ, zero, suc, ◌≤◌, ◌<◌, ◌≡◌, refl, Bool, true, false, cond}
use Rattle.std.proofs.Common.{arith, not-suc-le-zero, le_of_suc-le-suc, sym, ap, ap₂, subst, ◌∙◌, true≢false}
use Rattle.std.proofs.Math.Decide.{dec_le}
use Rattle.chains.specs.Least.{least}

pub least_most : (test : ℕ → Bool) (n : ℕ) → least test n ≤ n
unfolding least
least_most test zero = omega arith
least_most test (suc n) = go (test 0) (least_most (λ i. test (suc i)) n)
  where
    go : (b : Bool) → least (λ i. test (suc i)) n ≤ n → cond b 0 (suc (least (λ i. test (suc i)) n)) ≤ suc n
    go true h = omega arith
    go false h = omega arith

-- it holds of none below
pub least_below : (test : ℕ → Bool) (n k : ℕ) → k < least test n → test k ≡ false
unfolding least
least_below test zero k l = absurd (not-suc-le-zero l)
least_below test (suc n) k l = go (test 0) k refl l (λ j h. least_below (λ i. test (suc i)) n j h)
  where
    go : (b : Bool) (k : ℕ) → test 0 ≡ b → k < cond b 0 (suc (least (λ i. test (suc i)) n))
        → ((j : ℕ) → j < least (λ i. test (suc i)) n → test (suc j) ≡ false) → test k ≡ false
    go true k e l f = absurd (not-suc-le-zero l)
    go false zero e l f = e
    go false (suc k) e l f = f k (le_of_suc-le-suc l)

-- it holds of it, if of any up to n
pub least_holds : (test : ℕ → Bool) (n k : ℕ) → k ≤ n → test k ≡ true → test (least test n) ≡ true
unfolding least
least_holds test zero k l t = let z : k ≡ 0 = omega arith in subst (λ (j : ℕ). test j ≡ true) z t
least_holds test (suc n) k l t = go (test 0) k refl l t (λ j h u. least_holds (λ i. test (suc i)) n j h u)
  where
    go : (b : Bool) (k : ℕ) → test 0 ≡ b → k ≤ suc n → test k ≡ true
        → ((j : ℕ) → j ≤ n → test (suc j) ≡ true → test (suc (least (λ i. test (suc i)) n)) ≡ true) → test (cond b 0 (suc (least (λ i. test (suc i)) n))) ≡ true
    go true k e l t f = e
    go false zero e l t f = absurd (true≢false (sym t ∙ e))
    go false (suc k) e l t f = f k (le_of_suc-le-suc l) t

-- it is at most any
pub least_least : (test : ℕ → Bool) (n k : ℕ) → test k ≡ true → least test n ≤ k
least_least test n k t = elim (dec_le (least test n) k) [
  | yes h ↦ h
  | no h ↦ absurd (true≢false (sym t ∙ least_below test n k (omega arith)))
]

-- the first of which it holds is it
pub least_is : (test : ℕ → Bool) (n k : ℕ) → k ≤ n → test k ≡ true → ((j : ℕ) → j < k → test j ≡ false) → least test n ≡ k
least_is test n k l t f = elim (dec_le k (least test n)) [
  | yes h ↦ omega (arith, least_least test n k t)
  | no h ↦ absurd (true≢false (sym (least_holds test n k l t) ∙ f (least test n) (omega arith)))
]

-- tests that agree below n have the same
pub least_cong : (f g : ℕ → Bool) (n : ℕ) → ((k : ℕ) → k < n → f k ≡ g k) → least f n ≡ least g n
unfolding least
least_cong f g zero h = refl
least_cong f g (suc n) h =
    ap₂ (λ (b : Bool) (m : ℕ). cond b 0 (suc m)) (h 0 (omega arith)) (least_cong (λ i. f (suc i)) (λ i. g (suc i)) n (λ k l. h (suc k) (omega arith)))

-- n, if it holds of none below
pub least_none : (test : ℕ → Bool) (n : ℕ) → ((k : ℕ) → k < n → test k ≡ false) → least test n ≡ n
unfolding least
least_none test zero h = refl
least_none test (suc n) h = rw (h 0 (omega arith)) (ap suc (least_none (λ i. test (suc i)) n (λ k l. h (suc k) (omega arith))))
