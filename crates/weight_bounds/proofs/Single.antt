-- Equal ends: both bounds are the single exact value, wᵀXw. Assumes nothing.
use Rattle.std.specs.Prelude.{ℕ, ◌≡◌, refl, Bool, true, false, cond, ◌&&◌, eqb, ℤ, pos, ◌*ℤ◌}
use Rattle.std.proofs.Common.{zero-add, sym, ap, ap₂, ◌∙◌, eqb-true}
use Rattle.std.proofs.Math.IntN.{*ℤ_comm}
use Rattle.std.specs.Int.Signed.{le_z}
use Rattle.integers.proofs.Sum.{sum_cong}
use Rattle.integers.proofs.Order.{le_yes, ≤ℤ-antisym}
use Rattle.integers.specs.MinMax.{minℤ}
use Rattle.integers.proofs.MinMax.{minℤ_same, maxℤ_same}
use Rattle.quadratic_form.specs.ExactRow.{quadratic}
use Rattle.weight_bounds.specs.Bounds.{least_times, greatest_times, least_product, greatest_product, least_square, greatest_square}
use Rattle.weight_bounds.specs.Bounds.{least_term, greatest_term, low_bound, high_bound, variance}

pub least_square-single : (v : ℤ) → least_square v v ≡ v *ℤ v
least_square-single v = go (le_z v (pos 0)) (le_z (pos 0) v) refl refl
  where
    go : (s t : Bool) → le_z v (pos 0) ≡ s → le_z (pos 0) v ≡ t → cond (s && t) (pos 0) (minℤ (v *ℤ v) (v *ℤ v)) ≡ v *ℤ v
    go true true e f = let z : v ≡ pos 0 = ≤ℤ-antisym (le_yes e) (le_yes f) in sym (ap (λ (x : ℤ). x *ℤ x) z)
    go true false e f = minℤ_same (v *ℤ v)
    go false t e f = minℤ_same (v *ℤ v)

pub least_product-single : (v u : ℤ) → least_product v v u u ≡ v *ℤ u
least_product-single v u = minℤ_same (least_times v u u) ∙ minℤ_same (v *ℤ u)

pub greatest_product-single : (v u : ℤ) → greatest_product v v u u ≡ v *ℤ u
greatest_product-single v u = maxℤ_same (greatest_times v u u) ∙ maxℤ_same (v *ℤ u)

module _ (v : ℕ → ℤ) (Z : ℕ → ℕ → ℤ) where
  least_weights : (a b : ℕ) (s : Bool) → eqb a b ≡ s → cond s (least_square (v a) (v a)) (least_product (v a) (v a) (v b) (v b)) ≡ v a *ℤ v b
  least_weights a b true e = least_square-single (v a) ∙ ap (λ (k : ℕ). v a *ℤ v k) (eqb-true a b e)
  least_weights a b false e = least_product-single (v a) (v b)

  greatest_weights : (a b : ℕ) (s : Bool) → eqb a b ≡ s → cond s (greatest_square (v a) (v a)) (greatest_product (v a) (v a) (v b) (v b)) ≡ v a *ℤ v b
  greatest_weights a b true e = maxℤ_same (v a *ℤ v a) ∙ ap (λ (k : ℕ). v a *ℤ v k) (eqb-true a b e)
  greatest_weights a b false e = greatest_product-single (v a) (v b)

  pub least_term-single : (a b : ℕ) → least_term v v Z a b ≡ v a *ℤ v b *ℤ Z a b
  least_term-single a b =
      ap₂ (least_times (Z a b)) (least_weights a b (eqb a b) refl) (greatest_weights a b (eqb a b) refl)
      ∙ minℤ_same (Z a b *ℤ (v a *ℤ v b)) ∙ *ℤ_comm (Z a b) (v a *ℤ v b)

  pub greatest_term-single : (a b : ℕ) → greatest_term v v Z a b ≡ v a *ℤ v b *ℤ Z a b
  greatest_term-single a b =
      ap₂ (greatest_times (Z a b)) (least_weights a b (eqb a b) refl) (greatest_weights a b (eqb a b) refl)
      ∙ maxℤ_same (Z a b *ℤ (v a *ℤ v b)) ∙ *ℤ_comm (Z a b) (v a *ℤ v b)

  pub low_bound-single : (n : ℕ) → low_bound v v Z n ≡ variance v Z n
  low_bound-single n = sum_cong n _ _ (λ a h. sum_cong n _ _ (λ b l. least_term-single a b))

  pub high_bound-single : (n : ℕ) → high_bound v v Z n ≡ variance v Z n
  high_bound-single n = sum_cong n _ _ (λ a h. sum_cong n _ _ (λ b l. greatest_term-single a b))

-- the variance is document 01's wᵀXw of a row; k gives the column of a place
pub variance-quadratic : (k : ℕ → ℕ) (v : ℕ → ℤ) (X : ℕ → ℕ → ℤ) (n : ℕ) → variance v (λ a b. X (k a) (k b)) n ≡ quadratic k v X 0 n
variance-quadratic k v X n =
    sum_cong n _ _
    (λ a h. sum_cong n _ _ (λ b l. ap₂ (λ (i j : ℕ). v i *ℤ v j *ℤ X (k i) (k j)) (sym (zero-add a)) (sym (zero-add b))))
