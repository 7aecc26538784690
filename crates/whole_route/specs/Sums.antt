-- A sum of the recurrence over a column's stored entries in whole numbers, with the inverse's entries read by position.
-- Assumes nothing.
use Rattle.std.specs.Prelude.{ℕ, ◌+◌, ◌≤◌, ◌<◌, ◌≡◌, true, List, map, length, ℤ, pos}
use Rattle.lists.specs.Select.{one, select}
use Rattle.refusal.specs.Bounds.{max_dimension}
use Rattle.refusal.specs.Steps.{Reply}
use Rattle.pairs.specs.Pair.{pair_total}
use Rattle.pairs.specs.Scratch.{queue_start}
use Rattle.columns.specs.Columns.{row}
use Rattle.columns.specs.Kept.{kept_below}
use Rattle.columns.specs.Factor.{Column}
use Rattle.pairs.specs.Positions.{position_at, inverse_at}
use Rattle.exact.specs.Multiple.{Small}
use Rattle.exact.specs.Checked.{checked_run, checked_dot}
use Rattle.columns.specs.WholeFactor.{whole_value, whole_nonzero, whole_stored}

-- the inverse's entry for the pair of i and k, at the position that stands behind the marks
abbrev pub whole_inverse_at : ℕ → List ℕ → List ℤ → ℕ → ℕ → ℤ
whole_inverse_at n s inverse i k = inverse_at (pos 0) n s inverse i k

-- a sum, with the product of the entry at p where it is kept below the diagonal of column j; r k is the inverse's entry for the row k
abbrev pub with_entry : List ℕ → List ℤ → ℕ → (ℕ → ℤ) → ℕ → Reply ℤ → Reply ℤ
with_entry rows values j r p sum = checked_run r sum (map (whole_stored rows values) (one (kept_below rows (whole_nonzero values) j p) p))

-- the sum over the stored entries from s to below e that are kept below the diagonal of column j, in their order, or 20
unfoldable pub whole_sum : List ℕ → List ℤ → ℕ → (ℕ → ℤ) → ℕ → ℕ → Reply ℤ
whole_sum rows values j r s e = checked_dot r (map (whole_stored rows values) (select (kept_below rows (whole_nonzero values) j) s e))

-- a stored entry whose product can be taken
pub record TermInput (n i j p : ℕ) (rows : List ℕ) (values : List ℤ) (scratch : List ℕ) (inverse : List ℤ) : Type 0 where
  pub small : n ≤ max_dimension
  pub left : i < n
  pub stored : p < length rows
  pub weighed : p < length values
  pub inside : row rows p < n
  pub room : queue_start n + pair_total n ≤ length scratch
  pub known : kept_below rows (whole_nonzero values) j p ≡ true → position_at n scratch i (row rows p) < length inverse
  pub factor_small : kept_below rows (whole_nonzero values) j p ≡ true → Small (whole_value values p)
  pub inverse_small : kept_below rows (whole_nonzero values) j p ≡ true → Small (whole_inverse_at n scratch inverse i (row rows p))

-- stored entries whose products can be taken
pub record WholeSumInput (n i j s e : ℕ) (rows : List ℕ) (values : List ℤ) (scratch : List ℕ) (inverse : List ℤ) : Type 0 where
  pub small : n ≤ max_dimension
  pub left : i < n
  pub column : Column rows (length values) s e
  pub inside : (p : ℕ) → s ≤ p → p < e → row rows p < n
  pub room : queue_start n + pair_total n ≤ length scratch
  pub known : (p : ℕ) → s ≤ p → p < e → kept_below rows (whole_nonzero values) j p ≡ true → position_at n scratch i (row rows p) < length inverse
  pub factor_small : (p : ℕ) → s ≤ p → p < e → kept_below rows (whole_nonzero values) j p ≡ true → Small (whole_value values p)
  pub inverse_small : (p : ℕ) → s ≤ p → p < e → kept_below rows (whole_nonzero values) j p ≡ true → Small (whole_inverse_at n scratch inverse i (row rows p))
