-- The first pass: each sum gets the products of the descendants up to its row, a stored entry at a time for all sums.
-- Assumes nothing.
use Rattle.std.specs.Prelude.{ℕ, ◌+◌, ◌≤◌, ◌<◌, ◌≡◌, true, List, length, get_or, Float}
use Rattle.std.specs.Float.{nan}
use Rattle.columns.specs.Columns.{row}
use Rattle.columns.specs.Kept.{f0}
use Rattle.columns.specs.Factor.{Ascends, FirstFrom}
use Rattle.closure_route.specs.Products.{AddColumnInput}
use Rattle.closure_route.specs.Column.{SumColumn, terms_of, kept_term, sum_row}
use Rattle.closure_route.specs.Sums.{inverse_at, row_sum, with_product}
use Rattle.closure_route.specs.Stored.{SumsInput}

-- a column's stored entry at s, and its sums from first to below last, to which the product can be added
pub record AddStoredInput (x : SumColumn) (size : ℕ) : Type 0 where
  pub stored : x.s < length x.rows
  pub weighed : x.s < length x.values
  pub ordered : x.first ≤ x.last
  pub listed : x.last ≤ length x.result_rows
  pub below : (i : ℕ) → x.first ≤ i → i < x.last → x.j < sum_row x i
  pub ascends : Ascends x.result_rows x.first x.last
  pub column : (from : ℕ) → x.first ≤ from → from < x.last → row x.rows x.s ≤ sum_row x from → kept_term (terms_of x) x.s ≡ true
      → AddColumnInput x.n (row x.rows x.s) from x.last x.result_rows x.scratch size

-- the sums from m on, whose rows are not less than that of the stored entry at s, have its product; all others are as they were
pub record ProductAdded (x : SumColumn) (m : ℕ) (z z' : List Float) : Type 0 where
  pub from : x.first ≤ m
  pub upto : m ≤ x.last
  pub passed : (i : ℕ) → x.first ≤ i → i < m → sum_row x i < row x.rows x.s
  pub reached : (i : ℕ) → m ≤ i → i < x.last → row x.rows x.s ≤ sum_row x i
  pub long : length z' ≡ length z
  pub added : (i : ℕ) → m ≤ i → i < x.last
      → get_or z' i nan ≡ with_product x.rows x.values x.j (inverse_at nan x.n x.scratch z (sum_row x i)) x.s (get_or z i nan)
  pub before : (i : ℕ) → i < m → get_or z' i nan ≡ get_or z i nan
  pub after : (i : ℕ) → x.last ≤ i → get_or z' i nan ≡ get_or z i nan

-- the column's sums, cleared
pub record AddProductsInput (x : SumColumn) (z : List Float) : Type 0 where
  pub sums : SumsInput x (length z)
  pub cleared : (q : ℕ) → x.first ≤ q → q < x.last → get_or z q nan ≡ f0

-- each sum has the products of the stored entries up to its row, of those from s to below p
pub record ProductsAdded (x : SumColumn) (p : ℕ) (z₀ z : List Float) : Type 0 where
  pub long : length z ≡ length z₀
  pub sums : (q : ℕ) → x.first ≤ q → q < x.last
      → (f : ℕ) × FirstFrom (sum_row x q + 1) x.rows x.s p f
      × (get_or z q nan ≡ row_sum (terms_of x) z₀ (sum_row x q) x.s f)
  pub after : (q : ℕ) → x.last ≤ q → get_or z q nan ≡ get_or z₀ q nan
