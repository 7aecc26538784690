-- Laws of specs/Sum.antt.
use Rattle.std.specs.Prelude.{◌≡◌, refl, ◌⊎◌, ◌≢◌, ℕ, zero, suc, ◌+◌, ◌<◌, ℤ, pos, neg_ℤ, ◌+ℤ◌, ◌*ℤ◌}
use Rattle.std.proofs.Common.{sym, ◌∙◌, ap, ap₂, inl, inr, add-one, le_refl, le_of_suc-le-suc, eq-or-lt_of_le, not-suc-le-zero, ne_of_lt}
use Rattle.std.proofs.Math.Nat.{le_step}
use Rattle.std.proofs.Math.IntN.{+ℤ_assoc, +ℤ_idl, +ℤ_idr, neg_ℤ-+ℤ, *ℤ-zero, zero-*ℤ}
use Rattle.integers.proofs.Integer.{+ℤ-interchange, *ℤ-+ℤ, +ℤ-*ℤ}
use Rattle.integers.specs.Sum.{Σℤ}

-- equal terms
pub sum_cong : (n : ℕ) (f g : ℕ → ℤ) → ((k : ℕ) → k < n → f k ≡ g k) → Σℤ n f ≡ Σℤ n g
sum_cong zero f g h = refl
sum_cong (suc n) f g h = ap₂ ◌+ℤ◌ (sum_cong n f g (λ k l. h k (le_step l))) (h n (le_refl (suc n)))

-- all terms zero
pub sum_zero : (n : ℕ) (f : ℕ → ℤ) → ((k : ℕ) → k < n → f k ≡ pos zero) → Σℤ n f ≡ pos zero
sum_zero zero f h = refl
sum_zero (suc n) f h = ap₂ ◌+ℤ◌ (sum_zero n f (λ k l. h k (le_step l))) (h n (le_refl (suc n)))

-- linear
pub sum_add : (n : ℕ) (f g : ℕ → ℤ) → Σℤ n (λ k. f k +ℤ g k) ≡ Σℤ n f +ℤ Σℤ n g
sum_add zero f g = refl
sum_add (suc n) f g = ap (λ (x : ℤ). x +ℤ (f n +ℤ g n)) (sum_add n f g) ∙ +ℤ-interchange (Σℤ n f) (Σℤ n g) (f n) (g n)

pub sum_neg : (n : ℕ) (f : ℕ → ℤ) → Σℤ n (λ k. neg_ℤ (f k)) ≡ neg_ℤ (Σℤ n f)
sum_neg zero f = refl
sum_neg (suc n) f = ap (λ (x : ℤ). x +ℤ neg_ℤ (f n)) (sum_neg n f) ∙ sym (neg_ℤ-+ℤ (Σℤ n f) (f n))

pub sum_mul_left : (n : ℕ) (c : ℤ) (f : ℕ → ℤ) → c *ℤ Σℤ n f ≡ Σℤ n (λ k. c *ℤ f k)
sum_mul_left zero c f = *ℤ-zero c
sum_mul_left (suc n) c f = *ℤ-+ℤ c (Σℤ n f) (f n) ∙ ap (λ (x : ℤ). x +ℤ c *ℤ f n) (sum_mul_left n c f)

pub sum_mul_right : (n : ℕ) (c : ℤ) (f : ℕ → ℤ) → Σℤ n f *ℤ c ≡ Σℤ n (λ k. f k *ℤ c)
sum_mul_right zero c f = zero-*ℤ c
sum_mul_right (suc n) c f = +ℤ-*ℤ (Σℤ n f) (f n) c ∙ ap (λ (x : ℤ). x +ℤ f n *ℤ c) (sum_mul_right n c f)

-- two sums change places
pub sum_swap : (n m : ℕ) (f : ℕ → ℕ → ℤ) → Σℤ n (λ i. Σℤ m (λ j. f i j)) ≡ Σℤ m (λ j. Σℤ n (λ i. f i j))
sum_swap zero m f = sym (sum_zero m (λ j. pos zero) (λ k l. refl))
sum_swap (suc n) m f =
    ap (λ (x : ℤ). x +ℤ Σℤ m (λ j. f n j)) (sum_swap n m f) ∙ sym (sum_add m (λ j. Σℤ n (λ i. f i j)) (λ j. f n j))

-- only the term at j is not zero
pub sum_single : (n j : ℕ) (f : ℕ → ℤ) → j < n → ((k : ℕ) → k < n → k ≢ j → f k ≡ pos zero) → Σℤ n f ≡ f j
sum_single zero j f h z = absurd (not-suc-le-zero h)
sum_single (suc n) j f h z = go (eq-or-lt_of_le (le_of_suc-le-suc h)) (λ l. sum_single n j f l (λ k p q. z k (le_step p) q))
  where
    go : (j ≡ n) ⊎ (j < n) → (j < n → Σℤ n f ≡ f j) → Σℤ (suc n) f ≡ f j
    go (inl e) r =
        ap (λ (x : ℤ). x +ℤ f n) (sum_zero n f (λ k l. z k (le_step l) (λ q. ne_of_lt l (q ∙ e)))) ∙ +ℤ_idl (f n) ∙ ap f (sym e)
    go (inr l) r =
        ap (λ (x : ℤ). Σℤ n f +ℤ x) (z n (le_refl (suc n)) (λ q. ne_of_lt l (sym q))) ∙ +ℤ_idr (Σℤ n f) ∙ r l

-- the last term by itself, and the first
pub sum_next : (f : ℕ → ℤ) (n : ℕ) → Σℤ (n + 1) f ≡ Σℤ n f +ℤ f n
sum_next f n = ap (λ (m : ℕ). Σℤ m f) (add-one n)

pub sum_first : (n : ℕ) (f : ℕ → ℤ) → Σℤ (suc n) f ≡ f 0 +ℤ Σℤ n (λ k. f (suc k))
sum_first zero f = +ℤ_idl (f 0) ∙ sym (+ℤ_idr (f 0))
sum_first (suc n) f = ap (λ (x : ℤ). x +ℤ f (suc n)) (sum_first n f) ∙ +ℤ_assoc (f 0) (Σℤ n (λ k. f (suc k))) (f (suc n))
