-- Every choice of weights within the ranges has its variance within the bounds: whole weights, and fractions v / q, said of q times the ends and q² times the bounds.
-- Assumes nothing.
use Rattle.std.specs.Prelude.{ℕ, ◌*◌, ◌<◌, ◌≡◌, refl, Bool, true, false, cond, ◌&&◌, eqb, ℤ, pos, negsuc, ◌*ℤ◌, ◌≤ℤ◌}
use Rattle.std.proofs.Common.{sym, ap, subst, ◌∙◌, eqb-true}
use Rattle.std.proofs.Math.IntN.{*ℤ_comm, *ℤ-zero}
use Rattle.std.specs.Int.Signed.{le_z}
use Rattle.integers.proofs.Integer.{*ℤ-assoc, *ℤ-left-comm, *ℤ-idl, products}
use Rattle.integers.specs.Sum.{Σℤ}
use Rattle.integers.proofs.Sum.{sum_cong, sum_mul_left}
use Rattle.integers.proofs.Order.{≤ℤ-trans, le_yes, le_no, scale_le, turn_le, sum_le, square_up, square_down, square_positive}
use Rattle.integers.specs.MinMax.{minℤ}
use Rattle.integers.proofs.MinMax.{minℤ_left, minℤ_right, maxℤ_left, maxℤ_right, minℤ_most, maxℤ_least}
use Rattle.weight_bounds.specs.Bounds.{InRange, Scaled, least_times, greatest_times, least_product, greatest_product, least_square, greatest_square}
use Rattle.weight_bounds.specs.Bounds.{least_term, greatest_term, low_bound, high_bound, variance}

-- x / 1 is x
pub scaled_one : {lo x hi : ℤ} → InRange lo x hi → Scaled 1 lo x hi
scaled_one {lo} {x} {hi} B = record {
  from = subst (λ (z : ℤ). z ≤ℤ x) (sym (*ℤ-idl lo)) B.from;
  to = subst (λ (z : ℤ). x ≤ℤ z) (sym (*ℤ-idl hi)) B.to;
}

pub one_scaled : {lo x hi : ℤ} → Scaled 1 lo x hi → InRange lo x hi
one_scaled {lo} {x} {hi} B = record {
  from = subst (λ (z : ℤ). z ≤ℤ x) (*ℤ-idl lo) B.from;
  to = subst (λ (z : ℤ). x ≤ℤ z) (*ℤ-idl hi) B.to;
}

scaled_is : {q : ℕ} {lo hi x y : ℤ} → x ≡ y → Scaled q lo x hi → Scaled q lo y hi
scaled_is {q} {lo} {hi} e B = subst (λ (z : ℤ). Scaled q lo z hi) e B

-- q · (q · a) is q² · a
twice : (q : ℕ) (a : ℤ) → pos q *ℤ (pos q *ℤ a) ≡ pos (q * q) *ℤ a
twice q a = sym (*ℤ-assoc (pos q) (pos q) a)

-- ---- products
pub times_within : {q : ℕ} (c : ℤ) {lo hi y : ℤ} → Scaled q lo y hi → Scaled q (least_times c lo hi) (c *ℤ y) (greatest_times c lo hi)
times_within {q} (pos k) {lo} {hi} {y} B = record {
  from =
      ≤ℤ-trans (scale_le q (minℤ_left (pos k *ℤ lo) (pos k *ℤ hi)))
      (subst (λ (x : ℤ). x ≤ℤ (pos k *ℤ y)) (*ℤ-left-comm (pos k) (pos q) lo) (scale_le k B.from));
  to =
      ≤ℤ-trans (subst (λ (x : ℤ). (pos k *ℤ y) ≤ℤ x) (*ℤ-left-comm (pos k) (pos q) hi) (scale_le k B.to))
      (scale_le q (maxℤ_right (pos k *ℤ lo) (pos k *ℤ hi)));
}
times_within {q} (negsuc k) {lo} {hi} {y} B = record {
  from =
      ≤ℤ-trans (scale_le q (minℤ_right (negsuc k *ℤ lo) (negsuc k *ℤ hi)))
      (subst (λ (x : ℤ). x ≤ℤ (negsuc k *ℤ y)) (*ℤ-left-comm (negsuc k) (pos q) hi) (turn_le k B.to));
  to =
      ≤ℤ-trans (subst (λ (x : ℤ). (negsuc k *ℤ y) ≤ℤ x) (*ℤ-left-comm (negsuc k) (pos q) lo) (turn_le k B.from))
      (scale_le q (maxℤ_left (negsuc k *ℤ lo) (negsuc k *ℤ hi)));
}

pub product_within : {q : ℕ} {lo hi x lo' hi' y : ℤ} → Scaled q lo x hi → Scaled q lo' y hi'
    → Scaled (q * q) (least_product lo hi lo' hi') (x *ℤ y) (greatest_product lo hi lo' hi')
product_within {q} {lo} {hi} {x} {lo'} {hi'} {y} A B =
    let T = times_within lo B in
    let U = times_within hi B in
    let W = scaled_is (*ℤ_comm y x) (times_within y A) in
    let least = least_product lo hi lo' hi' in
    let greatest = greatest_product lo hi lo' hi' in
    record {
      from =
          subst (λ (z : ℤ). z ≤ℤ (x *ℤ y)) (twice q least)
          (≤ℤ-trans
          (scale_le q
          (minℤ_most (y *ℤ lo) (y *ℤ hi)
          (subst (λ (z : ℤ). (pos q *ℤ least) ≤ℤ z) (*ℤ_comm lo y)
          (≤ℤ-trans (scale_le q (minℤ_left (least_times lo lo' hi') (least_times hi lo' hi'))) T.from))
          (subst (λ (z : ℤ). (pos q *ℤ least) ≤ℤ z) (*ℤ_comm hi y)
          (≤ℤ-trans (scale_le q (minℤ_right (least_times lo lo' hi') (least_times hi lo' hi'))) U.from))))
          W.from);
      to =
          subst (λ (z : ℤ). (x *ℤ y) ≤ℤ z) (twice q greatest)
          (≤ℤ-trans W.to
          (scale_le q
          (maxℤ_least (y *ℤ lo) (y *ℤ hi)
          (subst (λ (z : ℤ). z ≤ℤ (pos q *ℤ greatest)) (*ℤ_comm lo y)
          (≤ℤ-trans T.to (scale_le q (maxℤ_left (greatest_times lo lo' hi') (greatest_times hi lo' hi')))))
          (subst (λ (z : ℤ). z ≤ℤ (pos q *ℤ greatest)) (*ℤ_comm hi y)
          (≤ℤ-trans U.to (scale_le q (maxℤ_right (greatest_times lo lo' hi') (greatest_times hi lo' hi'))))))));
    }

-- ---- squares
square_scale : (k a : ℤ) → k *ℤ (k *ℤ (a *ℤ a)) ≡ (k *ℤ a) *ℤ (k *ℤ a)
square_scale k a = simp products

-- q times a number that is not negative, or not positive
scaled_up : (q : ℕ) {a : ℤ} → pos 0 ≤ℤ a → pos 0 ≤ℤ (pos q *ℤ a)
scaled_up q {a} h = subst (λ (z : ℤ). z ≤ℤ (pos q *ℤ a)) (*ℤ-zero (pos q)) (scale_le q h)

scaled_down : (q : ℕ) {a : ℤ} → a ≤ℤ pos 0 → (pos q *ℤ a) ≤ℤ pos 0
scaled_down q {a} h = subst (λ (z : ℤ). (pos q *ℤ a) ≤ℤ z) (*ℤ-zero (pos q)) (scale_le q h)

module _ {q : ℕ} {lo hi x : ℤ} (B : Scaled q lo x hi) where
  abbrev ends : ℤ
  ends = minℤ (lo *ℤ lo) (hi *ℤ hi)

  -- the range is above 0, or below
  above : pos 0 ≤ℤ lo → (pos q *ℤ (pos q *ℤ ends)) ≤ℤ (x *ℤ x)
  above h =
      ≤ℤ-trans (scale_le q (scale_le q (minℤ_left (lo *ℤ lo) (hi *ℤ hi))))
      (subst (λ (z : ℤ). z ≤ℤ (x *ℤ x)) (sym (square_scale (pos q) lo)) (square_up (scaled_up q h) B.from))

  below : hi ≤ℤ pos 0 → (pos q *ℤ (pos q *ℤ ends)) ≤ℤ (x *ℤ x)
  below h =
      ≤ℤ-trans (scale_le q (scale_le q (minℤ_right (lo *ℤ lo) (hi *ℤ hi))))
      (subst (λ (z : ℤ). z ≤ℤ (x *ℤ x)) (sym (square_scale (pos q) hi)) (square_down (scaled_down q h) B.to))

  least : (s t : Bool) → le_z lo (pos 0) ≡ s → le_z (pos 0) hi ≡ t → (pos q *ℤ (pos q *ℤ cond (s && t) (pos 0) ends)) ≤ℤ (x *ℤ x)
  least true true e f =
      subst (λ (z : ℤ). z ≤ℤ (x *ℤ x)) (sym (ap (λ (z : ℤ). pos q *ℤ z) (*ℤ-zero (pos q)) ∙ *ℤ-zero (pos q))) (square_positive x)
  least true false e f = below (le_no (pos 0) hi f)
  least false t e f = above (le_no lo (pos 0) e)

  greatest : (s : Bool) → le_z (pos 0) x ≡ s → (x *ℤ x) ≤ℤ (pos q *ℤ (pos q *ℤ greatest_square lo hi))
  greatest true e =
      ≤ℤ-trans
      (subst (λ (z : ℤ). (x *ℤ x) ≤ℤ z) (sym (square_scale (pos q) hi)) (square_up (le_yes e) B.to))
      (scale_le q (scale_le q (maxℤ_right (lo *ℤ lo) (hi *ℤ hi))))
  greatest false e =
      ≤ℤ-trans
      (subst (λ (z : ℤ). (x *ℤ x) ≤ℤ z) (sym (square_scale (pos q) lo)) (square_down (le_no (pos 0) x e) B.from))
      (scale_le q (scale_le q (maxℤ_left (lo *ℤ lo) (hi *ℤ hi))))

  pub square_within : Scaled (q * q) (least_square lo hi) (x *ℤ x) (greatest_square lo hi)
  square_within = record {
    from = subst (λ (z : ℤ). z ≤ℤ (x *ℤ x)) (twice q (least_square lo hi)) (least (le_z lo (pos 0)) (le_z (pos 0) hi) refl refl);
    to = subst (λ (z : ℤ). (x *ℤ x) ≤ℤ z) (twice q (greatest_square lo hi)) (greatest (le_z (pos 0) x) refl);
  }

-- ---- terms and their sums
module _ (lo hi : ℕ → ℤ) (Z : ℕ → ℕ → ℤ) (q a b : ℕ) {x y : ℤ} (A : Scaled q (lo a) x (hi a)) (B : Scaled q (lo b) y (hi b)) (one : a ≡ b → x ≡ y) where
  weights : (s : Bool) → eqb a b ≡ s
      → Scaled (q * q) (cond s (least_square (lo a) (hi a)) (least_product (lo a) (hi a) (lo b) (hi b))) (x *ℤ y)
      (cond s (greatest_square (lo a) (hi a)) (greatest_product (lo a) (hi a) (lo b) (hi b)))
  weights true e = scaled_is (ap (λ (z : ℤ). x *ℤ z) (one (eqb-true a b e))) (square_within A)
  weights false e = product_within A B

  -- the term of two weights within their ranges, one weight where a is b
  pub term_within : Scaled (q * q) (least_term lo hi Z a b) (x *ℤ y *ℤ Z a b) (greatest_term lo hi Z a b)
  term_within = scaled_is (*ℤ_comm (Z a b) (x *ℤ y)) (times_within (Z a b) (weights (eqb a b) refl))

module _ (lo hi : ℕ → ℤ) (Z : ℕ → ℕ → ℤ) (q n : ℕ) (v : ℕ → ℤ) (B : (a : ℕ) → a < n → Scaled q (lo a) (v a) (hi a)) where
  row_term : (a b : ℕ) → a < n → b < n → Scaled (q * q) (least_term lo hi Z a b) (v a *ℤ v b *ℤ Z a b) (greatest_term lo hi Z a b)
  row_term a b h l = term_within lo hi Z q a b (B a h) (B b l) (λ e. ap v e)

  scaled_sums : (f : ℕ → ℕ → ℤ) → Σℤ n (λ a. Σℤ n (λ b. pos (q * q) *ℤ f a b)) ≡ pos (q * q) *ℤ Σℤ n (λ a. Σℤ n (f a))
  scaled_sums f =
      sum_cong n (λ a. Σℤ n (λ b. pos (q * q) *ℤ f a b)) (λ a. pos (q * q) *ℤ Σℤ n (f a)) (λ a h. sym (sum_mul_left n (pos (q * q)) (f a)))
      ∙ sym (sum_mul_left n (pos (q * q)) (λ a. Σℤ n (f a)))

  -- weights v / q within the ranges: their variance, that of v over q², lies within the bounds
  pub bounds_scaled : Scaled (q * q) (low_bound lo hi Z n) (variance v Z n) (high_bound lo hi Z n)
  bounds_scaled = record {
    from =
        subst (λ (z : ℤ). z ≤ℤ variance v Z n) (scaled_sums (least_term lo hi Z))
        (sum_le n (λ a. Σℤ n (λ b. pos (q * q) *ℤ least_term lo hi Z a b)) (λ a. Σℤ n (λ b. v a *ℤ v b *ℤ Z a b))
        (λ a h. sum_le n (λ b. pos (q * q) *ℤ least_term lo hi Z a b) (λ b. v a *ℤ v b *ℤ Z a b) (λ b l. (row_term a b h l).from)));
    to =
        subst (λ (z : ℤ). variance v Z n ≤ℤ z) (scaled_sums (greatest_term lo hi Z))
        (sum_le n (λ a. Σℤ n (λ b. v a *ℤ v b *ℤ Z a b)) (λ a. Σℤ n (λ b. pos (q * q) *ℤ greatest_term lo hi Z a b))
        (λ a h. sum_le n (λ b. v a *ℤ v b *ℤ Z a b) (λ b. pos (q * q) *ℤ greatest_term lo hi Z a b) (λ b l. (row_term a b h l).to)));
  }

-- whole weights within the ranges
pub bounds_hold : (lo hi : ℕ → ℤ) (Z : ℕ → ℕ → ℤ) (n : ℕ) (v : ℕ → ℤ) → ((a : ℕ) → a < n → InRange (lo a) (v a) (hi a))
    → InRange (low_bound lo hi Z n) (variance v Z n) (high_bound lo hi Z n)
bounds_hold lo hi Z n v B = one_scaled (bounds_scaled lo hi Z 1 n v (λ a h. scaled_one (B a h)))
