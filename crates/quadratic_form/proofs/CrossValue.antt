-- Laws of specs/CrossValue.antt.
use Prim.Native.Nat.{ℕ, zero, suc, ◌+◌, ◌-◌, ◌≤◌, ◌<◌}
use native.Mathlib.Omega.{arith}
use Rattle.std.specs.Prelude.{◌≡◌, Float}
use Rattle.std.proofs.Math.Path.{refl, ap, ap₂}
use Rattle.std.proofs.Common.{sym, ◌∙◌}
use Rattle.std.specs.Float.Ieee.{of_bits}
use Rattle.columns.specs.Kept.{f0}
use Rattle.takahashi.specs.Recurrence.{Arithmetic, at}
use Rattle.exact.specs.Exact.{floats}
use Rattle.quadratic_form.specs.CrossValue.{term, add_terms, with_terms, add_places, sum_before, cross_value}

-- k and l give the columns of the places of the two operators, w and v their weights; Z is a table of the lower triangle
module _ (A : Arithmetic) (k l : ℕ → ℕ) (w v : ℕ → A.Carrier) (Z : ℕ → ℕ → A.Carrier) where
  -- ---- one place more
  pub with_terms_none : (t a : ℕ) (sum : A.Carrier) → (with_terms A k l w v Z) t t a sum ≡ sum
  unfolding add_terms
  with_terms_none t a sum = let q : t - t ≡ 0 = omega arith in rw q

  pub with_terms_next : (t b a : ℕ) (sum : A.Carrier) → t ≤ b → (with_terms A k l w v Z) t (b + 1) a sum ≡ A.plus ((with_terms A k l w v Z) t b a sum) ((term A k l w v Z) a b)
  unfolding add_terms
  with_terms_next t b a sum h =
      let q : b + 1 - t ≡ suc (b - t) = omega arith in
      let p : t + (b - t) ≡ b = omega arith in
      ap ((add_terms A k l w v Z) t a sum) q ∙ ap (λ (j : ℕ). A.plus ((add_terms A k l w v Z) t a sum (b - t)) ((term A k l w v Z) a j)) p

  pub sum_before_none : (s t f : ℕ) → (sum_before A k l w v Z) s t f s ≡ A.zero
  unfolding add_places
  sum_before_none s t f = let q : s - s ≡ 0 = omega arith in rw q

  pub sum_before_next : (s t f a : ℕ) → s ≤ a → (sum_before A k l w v Z) s t f (a + 1) ≡ (with_terms A k l w v Z) t f a ((sum_before A k l w v Z) s t f a)
  unfolding add_places
  sum_before_next s t f a h =
      let q : a + 1 - s ≡ suc (a - s) = omega arith in
      let p : s + (a - s) ≡ a = omega arith in
      ap ((add_places A k l w v Z) s t f) q ∙ ap (λ (j : ℕ). (with_terms A k l w v Z) t f j ((add_places A k l w v Z) s t f (a - s))) p

-- in f64 the sum starts from 0.0
pub sum_before_start : (k l : ℕ → ℕ) (w v : ℕ → Float) (Z : ℕ → ℕ → Float) (s t f : ℕ) → f0 ≡ sum_before floats k l w v Z s t f s
unfolding of_bits
sum_before_start k l w v Z s t f = sym (sum_before_none floats k l w v Z s t f)

-- the value needs the table's entries at the rows' pairs alone
module _ (A : Arithmetic) (k l : ℕ → ℕ) (w v : ℕ → A.Carrier) (Z Z' : ℕ → ℕ → A.Carrier) (s e t f : ℕ)
    (same : (a b : ℕ) → s ≤ a → a < e → t ≤ b → b < f → at Z (k a) (l b) ≡ at Z' (k a) (l b)) where
  add_terms_cong : (a : ℕ) → s ≤ a → a < e → (sum : A.Carrier) (m : ℕ) → t + m ≤ f → add_terms A k l w v Z t a sum m ≡ add_terms A k l w v Z' t a sum m
  unfolding add_terms
  add_terms_cong a h i sum zero o = refl
  add_terms_cong a h i sum (suc m) o =
      ap₂ A.plus (add_terms_cong a h i sum m (omega arith))
      (ap (A.times (A.times (w a) (v (t + m)))) (same a (t + m) h i (omega arith) (omega arith)))

  add_places_cong : (m : ℕ) → s + m ≤ e → t ≤ f → add_places A k l w v Z s t f m ≡ add_places A k l w v Z' s t f m
  unfolding add_places
  add_places_cong zero o q = refl
  add_places_cong (suc m) o q =
      ap (λ (x : A.Carrier). with_terms A k l w v Z t f (s + m) x) (add_places_cong m (omega arith) q)
      ∙ add_terms_cong (s + m) (omega arith) (omega arith) (add_places A k l w v Z' s t f m) (f - t) (omega arith)

  pub cross_value_cong : s ≤ e → t ≤ f → cross_value A k l w v Z s e t f ≡ cross_value A k l w v Z' s e t f
  cross_value_cong h q = add_places_cong (e - s) (omega arith) q
