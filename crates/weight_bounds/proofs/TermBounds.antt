-- Laws of specs/TermBounds.antt.
use Rattle.std.specs.Prelude.{ℕ, ◌≡◌, refl, Bool, true, false, cond, ◌&&◌, eqb, ℤ, pos, ◌*ℤ◌, ◌≤ℤ◌}
use Rattle.std.proofs.Common.{ap, subst, ◌∙◌, eqb-true}
use Rattle.std.proofs.Math.IntN.{*ℤ_comm}
use Rattle.std.specs.Int.Signed.{le_z, ≤ℤ_refl}
use Rattle.std.proofs.lemmas.Bool.{eqb-false}
use Rattle.integers.proofs.Order.{le_yes}
use Rattle.integers.specs.MinMax.{minℤ}
use Rattle.integers.proofs.MinMax.{minℤ_both, maxℤ_both}
use Rattle.weight_bounds.specs.Bounds.{InRange, least_times, greatest_times, least_product, greatest_product, least_square, greatest_square}
use Rattle.weight_bounds.specs.Bounds.{least_weight_product, greatest_weight_product, least_term, greatest_term}
use Rattle.weight_bounds.proofs.Within.{scaled_one, one_scaled, term_within}
use Rattle.weight_bounds.specs.TermBounds.{Product, Square, Term}

module _ {lo hi lo' hi' : ℤ} (h : lo ≤ℤ hi) (k : lo' ≤ℤ hi') where
  low : {a b : ℤ} → a ≤ℤ b → InRange a a b
  low {a} l = record { from = ≤ℤ_refl a; to = l }

  high : {a b : ℤ} → a ≤ℤ b → InRange a b b
  high {b = b} l = record { from = l; to = ≤ℤ_refl b }

  corner : {x y : ℤ} → InRange lo x hi → InRange lo' y hi' → Product lo hi lo' hi' (x *ℤ y)
  corner {x} {y} a b = record { x = x; y = y; left = a; right = b; product_is = refl }

  pub least_product_attained : Product lo hi lo' hi' (least_product lo hi lo' hi')
  least_product_attained =
      minℤ_both (least_times lo lo' hi') (least_times hi lo' hi') (Product lo hi lo' hi')
      (minℤ_both (lo *ℤ lo') (lo *ℤ hi') (Product lo hi lo' hi') (corner (low h) (low k)) (corner (low h) (high k)))
      (minℤ_both (hi *ℤ lo') (hi *ℤ hi') (Product lo hi lo' hi') (corner (high h) (low k)) (corner (high h) (high k)))

  pub greatest_product_attained : Product lo hi lo' hi' (greatest_product lo hi lo' hi')
  greatest_product_attained =
      maxℤ_both (greatest_times lo lo' hi') (greatest_times hi lo' hi') (Product lo hi lo' hi')
      (maxℤ_both (lo *ℤ lo') (lo *ℤ hi') (Product lo hi lo' hi') (corner (low h) (low k)) (corner (low h) (high k)))
      (maxℤ_both (hi *ℤ lo') (hi *ℤ hi') (Product lo hi lo' hi') (corner (high h) (low k)) (corner (high h) (high k)))

module _ {lo hi : ℤ} (h : lo ≤ℤ hi) where
  end_low : Square lo hi (lo *ℤ lo)
  end_low = record { x = lo; within = record { from = ≤ℤ_refl lo; to = h }; square_is = refl }

  end_high : Square lo hi (hi *ℤ hi)
  end_high = record { x = hi; within = record { from = h; to = ≤ℤ_refl hi }; square_is = refl }

  pub least_square_attained : Square lo hi (least_square lo hi)
  least_square_attained = go (le_z lo (pos 0)) (le_z (pos 0) hi) refl refl
    where
      go : (s t : Bool) → le_z lo (pos 0) ≡ s → le_z (pos 0) hi ≡ t → Square lo hi (cond (s && t) (pos 0) (minℤ (lo *ℤ lo) (hi *ℤ hi)))
      go true true e f = record { x = pos 0; within = record { from = le_yes e; to = le_yes f }; square_is = refl }
      go true false e f = minℤ_both (lo *ℤ lo) (hi *ℤ hi) (Square lo hi) end_low end_high
      go false t e f = minℤ_both (lo *ℤ lo) (hi *ℤ hi) (Square lo hi) end_low end_high

  pub greatest_square_attained : Square lo hi (greatest_square lo hi)
  greatest_square_attained = maxℤ_both (lo *ℤ lo) (hi *ℤ hi) (Square lo hi) end_low end_high

module _ (lo hi : ℕ → ℤ) (Z : ℕ → ℕ → ℤ) (a b : ℕ) (h : lo a ≤ℤ hi a) (k : lo b ≤ℤ hi b) where
  of_square : {w : ℤ} → a ≡ b → Square (lo a) (hi a) w → Term lo hi Z a b (Z a b *ℤ w)
  of_square e S = record {
    x = S.x;
    y = S.x;
    left = S.within;
    right = subst (λ (i : ℕ). InRange (lo i) S.x (hi i)) e S.within;
    one = λ _. refl;
    term_is = *ℤ_comm (S.x *ℤ S.x) (Z a b) ∙ ap (λ (z : ℤ). Z a b *ℤ z) S.square_is;
  }

  of-product : {w : ℤ} → (a ≡ b → ⊥) → Product (lo a) (hi a) (lo b) (hi b) w → Term lo hi Z a b (Z a b *ℤ w)
  of-product n P = record {
    x = P.x;
    y = P.y;
    left = P.left;
    right = P.right;
    one = λ e. absurd (n e);
    term_is = *ℤ_comm (P.x *ℤ P.y) (Z a b) ∙ ap (λ (z : ℤ). Z a b *ℤ z) P.product_is;
  }

  least_weights : (s : Bool) → eqb a b ≡ s → Term lo hi Z a b (Z a b *ℤ cond s (least_square (lo a) (hi a)) (least_product (lo a) (hi a) (lo b) (hi b)))
  least_weights true e = of_square (eqb-true a b e) (least_square_attained h)
  least_weights false e = of-product (eqb-false a b e) (least_product_attained h k)

  greatest_weights : (s : Bool) → eqb a b ≡ s → Term lo hi Z a b (Z a b *ℤ cond s (greatest_square (lo a) (hi a)) (greatest_product (lo a) (hi a) (lo b) (hi b)))
  greatest_weights true e = of_square (eqb-true a b e) (greatest_square_attained h)
  greatest_weights false e = of-product (eqb-false a b e) (greatest_product_attained h k)

  pub least_term_attained : Term lo hi Z a b (least_term lo hi Z a b)
  least_term_attained =
      minℤ_both (Z a b *ℤ least_weight_product lo hi a b) (Z a b *ℤ greatest_weight_product lo hi a b) (Term lo hi Z a b)
      (least_weights (eqb a b) refl) (greatest_weights (eqb a b) refl)

  pub greatest_term_attained : Term lo hi Z a b (greatest_term lo hi Z a b)
  greatest_term_attained =
      maxℤ_both (Z a b *ℤ least_weight_product lo hi a b) (Z a b *ℤ greatest_weight_product lo hi a b) (Term lo hi Z a b)
      (least_weights (eqb a b) refl) (greatest_weights (eqb a b) refl)

-- no choice passes them
pub term_holds : (lo hi : ℕ → ℤ) (Z : ℕ → ℕ → ℤ) (a b : ℕ) {t : ℤ} → Term lo hi Z a b t → InRange (least_term lo hi Z a b) t (greatest_term lo hi Z a b)
term_holds lo hi Z a b T =
    subst (λ (t : ℤ). InRange (least_term lo hi Z a b) t (greatest_term lo hi Z a b)) T.term_is
    (one_scaled (term_within lo hi Z 1 a b (scaled_one T.left) (scaled_one T.right) T.one))
