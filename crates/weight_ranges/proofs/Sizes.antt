-- Laws of specs/Sizes.antt.
use Rattle.std.specs.Prelude.{ℕ, ◌*◌, ◌≤◌, ◌<◌, Bool, true, false, cond, ◌&&◌, List, eqb, length, ℤ, pos, ◌*ℤ◌}
use Rattle.std.proofs.Common.{arith, le_refl}
use Rattle.std.specs.Int.Signed.{le_z}
use Rattle.integers.specs.Sum.{Σℤ}
use Rattle.integers.specs.Size.{SizeWithin}
use Rattle.integers.proofs.Size.{size_more, size_product, size_minℤ, size_maxℤ, size_sums}
use Rattle.weight_bounds.specs.Bounds.{least_times, greatest_times, least_product, greatest_product, least_square, greatest_square}
use Rattle.columns.specs.WholeFactor.{whole_value}
use Rattle.weight_ranges.specs.Ranges.{least_term_of, greatest_term_of, least_weight_product_of, greatest_weight_product_of}
use Rattle.weight_ranges.specs.Sizes.{RangesReady}

-- ---- products
pub times_sizes : {k m : ℕ} {c lo hi : ℤ} → SizeWithin k c → SizeWithin m lo → SizeWithin m hi → SizeWithin (k * m) (least_times c lo hi) × SizeWithin (k * m) (greatest_times c lo hi)
times_sizes {c = c} {lo} {hi} h l g = (size_minℤ (c *ℤ lo) (c *ℤ hi) (size_product h l) (size_product h g), size_maxℤ (c *ℤ lo) (c *ℤ hi) (size_product h l) (size_product h g))

module _ {lo hi : ℤ} (h : SizeWithin 1024 lo) (g : SizeWithin 1024 hi) where
  pub square_sizes : SizeWithin 1048576 (least_square lo hi) × SizeWithin 1048576 (greatest_square lo hi)
  square_sizes = (go (le_z lo (pos 0) && le_z (pos 0) hi), size_maxℤ (lo *ℤ lo) (hi *ℤ hi) (size_product h h) (size_product g g))
    where
      go : (t : Bool) → SizeWithin 1048576 (cond t (pos 0) (cond (le_z (lo *ℤ lo) (hi *ℤ hi)) (lo *ℤ lo) (hi *ℤ hi)))
      go true = record { size = omega arith }
      go false = size_minℤ (lo *ℤ lo) (hi *ℤ hi) (size_product h h) (size_product g g)

  pub product_sizes : {lo' hi' : ℤ} → SizeWithin 1024 lo' → SizeWithin 1024 hi' → SizeWithin 1048576 (least_product lo hi lo' hi') × SizeWithin 1048576 (greatest_product lo hi lo' hi')
  product_sizes {lo'} {hi'} l k =
      let p = times_sizes h l k in
      let q = times_sizes g l k in
      (size_minℤ (least_times lo lo' hi') (least_times hi lo' hi') p.0 q.0, size_maxℤ (greatest_times lo lo' hi') (greatest_times hi lo' hi') p.1 q.1)

-- ---- a row that is ranges-ready
module _ {starts rows : List ℕ} {values : List ℤ} {columns : List ℕ} {lows highs : List ℤ} (R : RangesReady starts rows values columns lows highs) where
  pub weights_sizes : (a b : ℕ) → a < length columns → b < length columns
      → SizeWithin 1048576 (least_weight_product_of lows highs a b) × SizeWithin 1048576 (greatest_weight_product_of lows highs a b)
  weights_sizes a b h l = go (eqb a b)
    where
      go : (t : Bool)
          → SizeWithin 1048576 (cond t (least_square (whole_value lows a) (whole_value highs a)) (least_product (whole_value lows a) (whole_value highs a) (whole_value lows b) (whole_value highs b)))
          × SizeWithin 1048576 (cond t (greatest_square (whole_value lows a) (whole_value highs a)) (greatest_product (whole_value lows a) (whole_value highs a) (whole_value lows b) (whole_value highs b)))
      go true = square_sizes (R.low a h) (R.high a h)
      go false = product_sizes (R.low a h) (R.high a h) (R.low b l) (R.high b l)

  -- a term is at most 2^50
  pub term_sizes : (a b : ℕ) → a < length columns → b < length columns
      → SizeWithin 1125899906842624 (least_term_of starts rows values columns lows highs a b) × SizeWithin 1125899906842624 (greatest_term_of starts rows values columns lows highs a b)
  term_sizes a b h l =
      let w = weights_sizes a b h l in
      times_sizes (R.entry a b h l) w.0 w.1

  -- the terms of one place with the first m, at most 2^56
  pub least_sum_size : (a m : ℕ) → a < length columns → m ≤ length columns → SizeWithin 72057594037927936 (Σℤ m (least_term_of starts rows values columns lows highs a))
  least_sum_size a m h l =
      size_more (size_sums 1125899906842624 m (least_term_of starts rows values columns lows highs a) (λ b k. (term_sizes a b h (omega arith)).0)) (omega (arith, R.few))

  pub greatest_sum_size : (a m : ℕ) → a < length columns → m ≤ length columns → SizeWithin 72057594037927936 (Σℤ m (greatest_term_of starts rows values columns lows highs a))
  greatest_sum_size a m h l =
      size_more (size_sums 1125899906842624 m (greatest_term_of starts rows values columns lows highs a) (λ b k. (term_sizes a b h (omega arith)).1)) (omega (arith, R.few))

  -- the terms of the first m places with all: at most m · 2^56, and so less than 2^62 before the last
  pub least_sums_size : (m : ℕ) → m ≤ length columns → SizeWithin (m * 72057594037927936) (Σℤ m (λ a. Σℤ (length columns) (least_term_of starts rows values columns lows highs a)))
  least_sums_size m l = size_sums 72057594037927936 m _ (λ a k. least_sum_size a (length columns) (omega arith) (le_refl _))

  pub greatest_sums_size : (m : ℕ) → m ≤ length columns → SizeWithin (m * 72057594037927936) (Σℤ m (λ a. Σℤ (length columns) (greatest_term_of starts rows values columns lows highs a)))
  greatest_sums_size m l = size_sums 72057594037927936 m _ (λ a k. greatest_sum_size a (length columns) (omega arith) (le_refl _))
