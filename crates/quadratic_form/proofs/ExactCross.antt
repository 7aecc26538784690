-- Laws of specs/ExactCross.antt.
use Prim.Native.Nat.{ℕ, zero, suc, ◌+◌, ◌-◌, ◌≤◌, ◌<◌}
use Rattle.std.proofs.Common.{arith, sym, ap₂, ◌∙◌, lit≤}
use Rattle.std.specs.Prelude.{◌≡◌, ℤ, ◌+ℤ◌, ◌*ℤ◌, Float}
use Rattle.std.proofs.Math.Path.{subst}
use Rattle.std.proofs.Math.IntN.{+ℤ_assoc, +ℤ_idr, *ℤ_comm}
use Rattle.std.specs.Float.{binary64}
use Rattle.std.specs.Float.Ieee.{mul}
use Rattle.integers.proofs.Integer.{*ℤ-idr}
use Rattle.integers.specs.Sum.{Σℤ}
use Rattle.integers.proofs.Sum.{sum_cong, sum_swap}
use Rattle.takahashi.specs.Recurrence.{at}
use Rattle.exact.specs.Multiple.{Whole, Small}
use Rattle.exact.proofs.Multiple.{multiple_zero, multiple_mul, multiple_add}
use Rattle.exact.specs.Exact.{floats}
use Rattle.quadratic_form.specs.CrossValue.{term, add_terms, add_places, cross_value}
use Rattle.quadratic_form.specs.ExactCross.{exact_term, running_sum, bilinear, RowsWithin, WholeRows}

whole_mul : (x y : Float) (a b : ℤ) → Whole x a → Whole y b → Small (a *ℤ b) → Whole (mul binary64 x y) (a *ℤ b)
whole_mul x y a b p q h = multiple_mul 0 (lit≤ tt) x y a b (a *ℤ b) p q (sym (*ℤ-idr (a *ℤ b))) h

module _ (k l : ℕ → ℕ) (w x : ℕ → Float) (Z : ℕ → ℕ → Float) (v u : ℕ → ℤ) (X : ℕ → ℕ → ℤ) (s e t f : ℕ)
    (W : WholeRows k l w x Z v u X s (e - s) t (f - t)) (B : RowsWithin k l v u X s (e - s) t (f - t)) where
  abbrev exact : ℕ → ℕ → ℤ
  exact = exact_term k l v u X s (e - s) t (f - t)

  abbrev running : ℕ → ℕ → ℤ
  running = running_sum k l v u X s (e - s) t (f - t)

  term_exact : (i j : ℕ) → i < e - s → j < f - t → Whole (term floats k l w x Z (s + i) (t + j)) (exact i j)
  term_exact i j h o =
      whole_mul (mul binary64 (w (s + i)) (x (t + j))) (at Z (k (s + i)) (l (t + j))) (v (s + i) *ℤ u (t + j)) (X (k (s + i)) (l (t + j)))
      (whole_mul (w (s + i)) (x (t + j)) (v (s + i)) (u (t + j)) (W.first i h) (W.second j o) (B.weights i j h o))
      (W.entries i j h o) (B.terms i j h o)

  add_terms_exact : (i : ℕ) → i < e - s → (sum : Float) → Whole sum (Σℤ i (λ a. Σℤ (f - t) (exact a))) → (m : ℕ) → m ≤ f - t
      → Whole (add_terms floats k l w x Z t (s + i) sum m) (running i m)
  unfolding add_terms
  add_terms_exact i h sum p zero o = subst (Whole sum) (sym (+ℤ_idr (Σℤ i (λ a. Σℤ (f - t) (exact a))))) p
  add_terms_exact i h sum p (suc m) o =
      let q : running i m +ℤ exact i m ≡ running i (suc m) = +ℤ_assoc (Σℤ i (λ a. Σℤ (f - t) (exact a))) (Σℤ m (exact i)) (exact i m) in
      subst (Whole (add_terms floats k l w x Z t (s + i) sum (suc m))) q
      (multiple_add 0 (lit≤ tt) (add_terms floats k l w x Z t (s + i) sum m) (term floats k l w x Z (s + i) (t + m)) (running i m) (exact i m)
      (add_terms_exact i h sum p m (omega arith)) (term_exact i m h (omega arith)) (subst Small (sym q) (B.sums i m h (omega arith))))

  add_places_exact : (m : ℕ) → m ≤ e - s → Whole (add_places floats k l w x Z s t f m) (Σℤ m (λ i. Σℤ (f - t) (exact i)))
  unfolding add_places
  add_places_exact zero o = multiple_zero 0
  add_places_exact (suc m) o = add_terms_exact m (omega arith) (add_places floats k l w x Z s t f m) (add_places_exact m (omega arith)) (f - t) (omega arith)

  -- the rows' value is the exact one
  pub cross_value_exact : Whole (cross_value floats k l w x Z s e t f) (bilinear k l v u X s (e - s) t (f - t))
  cross_value_exact = add_places_exact (e - s) (omega arith)

-- exchanging the two rows gives the same exact value
pub bilinear-exchanged : (k l : ℕ → ℕ) (v u : ℕ → ℤ) (X : ℕ → ℕ → ℤ) (s size t width : ℕ)
    → ((i j : ℕ) → i < size → j < width → X (k (s + i)) (l (t + j)) ≡ X (l (t + j)) (k (s + i)))
    → bilinear k l v u X s size t width ≡ bilinear l k u v X t width s size
bilinear-exchanged k l v u X s size t width symmetric =
    sum_cong size _ _
    (λ i h. sum_cong width _ _ (λ j o. ap₂ ◌*ℤ◌ (*ℤ_comm (v (s + i)) (u (t + j))) (symmetric i j h o)))
    ∙ sum_swap size width (λ i j. u (t + j) *ℤ v (s + i) *ℤ X (l (t + j)) (k (s + i)))
