-- The least and the greatest value of a row's terms, where each weight is a number from a low to a high end, and their sums: bounds on the row's variance.
-- Assumes nothing.
use Rattle.std.specs.Prelude.{ℕ, cond, ◌&&◌, eqb, ℤ, pos, ◌*ℤ◌, ◌≤ℤ◌}
use Rattle.std.specs.Int.Signed.{le_z}
use Rattle.integers.specs.Sum.{Σℤ}
use Rattle.integers.specs.MinMax.{minℤ, maxℤ}

-- x is a number from lo to hi
pub record InRange (lo x hi : ℤ) : Type 0 where
  pub from : lo ≤ℤ x
  pub to : x ≤ℤ hi

-- x / q is a number from lo to hi
pub record Scaled (q : ℕ) (lo x hi : ℤ) : Type 0 where
  pub from : (pos q *ℤ lo) ≤ℤ x
  pub to : x ≤ℤ (pos q *ℤ hi)

-- c times a number from lo to hi
abbrev pub least_times : ℤ → ℤ → ℤ → ℤ
least_times c lo hi = minℤ (c *ℤ lo) (c *ℤ hi)

abbrev pub greatest_times : ℤ → ℤ → ℤ → ℤ
greatest_times c lo hi = maxℤ (c *ℤ lo) (c *ℤ hi)

-- a number from lo to hi times one from lo' to hi': of the four products of ends
abbrev pub least_product : ℤ → ℤ → ℤ → ℤ → ℤ
least_product lo hi lo' hi' = minℤ (least_times lo lo' hi') (least_times hi lo' hi')

abbrev pub greatest_product : ℤ → ℤ → ℤ → ℤ → ℤ
greatest_product lo hi lo' hi' = maxℤ (greatest_times lo lo' hi') (greatest_times hi lo' hi')

-- a number from lo to hi times itself: 0 where 0 is among them, else of the squares of the ends
abbrev pub least_square : ℤ → ℤ → ℤ
least_square lo hi = cond (le_z lo (pos 0) && le_z (pos 0) hi) (pos 0) (minℤ (lo *ℤ lo) (hi *ℤ hi))

abbrev pub greatest_square : ℤ → ℤ → ℤ
greatest_square lo hi = maxℤ (lo *ℤ lo) (hi *ℤ hi)

-- the weights of a row's places a lie from lo a to hi a
module _ (lo hi : ℕ → ℤ) where
  -- the product of the weights of a and b
  abbrev pub least_weight_product : ℕ → ℕ → ℤ
  least_weight_product a b = cond (eqb a b) (least_square (lo a) (hi a)) (least_product (lo a) (hi a) (lo b) (hi b))

  abbrev pub greatest_weight_product : ℕ → ℕ → ℤ
  greatest_weight_product a b = cond (eqb a b) (greatest_square (lo a) (hi a)) (greatest_product (lo a) (hi a) (lo b) (hi b))

-- Z a b is the entry at the columns of the places a and b
module _ (lo hi : ℕ → ℤ) (Z : ℕ → ℕ → ℤ) where
  -- the term of a and b: the product of the weights times the entry
  abbrev pub least_term : ℕ → ℕ → ℤ
  least_term a b = least_times (Z a b) (least_weight_product lo hi a b) (greatest_weight_product lo hi a b)

  abbrev pub greatest_term : ℕ → ℕ → ℤ
  greatest_term a b = greatest_times (Z a b) (least_weight_product lo hi a b) (greatest_weight_product lo hi a b)

  -- the sums over the ordered pairs of n places
  abbrev pub low_bound : ℕ → ℤ
  low_bound n = Σℤ n (λ a. Σℤ n (least_term a))

  abbrev pub high_bound : ℕ → ℤ
  high_bound n = Σℤ n (λ a. Σℤ n (greatest_term a))

-- the variance of a row with the weights v: the sum of v(a)·v(b)·Z(a, b) over the ordered pairs of n places
abbrev pub variance : (ℕ → ℤ) → (ℕ → ℕ → ℤ) → ℕ → ℤ
variance v Z n = Σℤ n (λ a. Σℤ n (λ b. v a *ℤ v b *ℤ Z a b))
