-- Laws of specs/Wider.antt.
use Rattle.std.specs.Prelude.{ℕ, ◌<◌, ℤ, ◌≤ℤ◌}
use Rattle.integers.proofs.Order.{≤ℤ-trans, sum_le}
use Rattle.integers.specs.Sum.{Σℤ}
use Rattle.weight_bounds.specs.Bounds.{InRange, least_term, greatest_term, low_bound, high_bound}
use Rattle.weight_bounds.specs.TermBounds.{Term}
use Rattle.weight_bounds.proofs.TermBounds.{least_term_attained, greatest_term_attained, term_holds}
use Rattle.weight_bounds.specs.Wider.{Wider}

module _ (lo hi lo' hi' : ℕ → ℤ) (Z : ℕ → ℕ → ℤ) (n : ℕ) (W : Wider lo hi lo' hi' n) where
  widened : {x : ℤ} (a : ℕ) → a < n → InRange (lo a) x (hi a) → InRange (lo' a) x (hi' a)
  widened a h B = record { from = ≤ℤ-trans (W.below a h) B.from; to = ≤ℤ-trans B.to (W.above a h) }

  -- what the narrower ranges attain, the wider ones do
  wider_term : {t : ℤ} (a b : ℕ) → a < n → b < n → Term lo hi Z a b t → Term lo' hi' Z a b t
  wider_term a b h l T = record {
    x = T.x;
    y = T.y;
    left = widened a h T.left;
    right = widened b l T.right;
    one = T.one;
    term_is = T.term_is;
  }

  pub low_bound_wider : low_bound lo' hi' Z n ≤ℤ low_bound lo hi Z n
  low_bound_wider =
      sum_le n (λ a. Σℤ n (least_term lo' hi' Z a)) (λ a. Σℤ n (least_term lo hi Z a))
      (λ a h. sum_le n (least_term lo' hi' Z a) (least_term lo hi Z a)
      (λ b l. (term_holds lo' hi' Z a b (wider_term a b h l (least_term_attained lo hi Z a b (W.ends a h) (W.ends b l)))).from))

  pub high_bound_wider : high_bound lo hi Z n ≤ℤ high_bound lo' hi' Z n
  high_bound_wider =
      sum_le n (λ a. Σℤ n (greatest_term lo hi Z a)) (λ a. Σℤ n (greatest_term lo' hi' Z a))
      (λ a h. sum_le n (greatest_term lo hi Z a) (greatest_term lo' hi' Z a)
      (λ b l. (term_holds lo' hi' Z a b (wider_term a b h l (greatest_term_attained lo hi Z a b (W.ends a h) (W.ends b l)))).to))
