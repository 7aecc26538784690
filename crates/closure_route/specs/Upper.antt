-- The second pass: each sum gets the products of the descendants greater than its row, a sum at a time.
-- Assumes nothing.
use Rattle.std.specs.Prelude.{ℕ, ◌+◌, ◌≤◌, ◌<◌, ◌≡◌, Bool, ◌≢◌, List, length, get_or, Float}
use Rattle.std.specs.Float.{nan}
use Rattle.lists.specs.Test.{any_in}
use Rattle.refusal.specs.Bounds.{max_dimension}
use Rattle.columns.specs.Factor.{FirstFrom}
use Rattle.closure_route.specs.Column.{SumColumn, terms_of, terms_from, sum_row}
use Rattle.closure_route.specs.Sums.{row_sum, entry_sum, SumContinued}
use Rattle.closure_route.specs.Rest.{zero_at, SumRestInput}
use Rattle.closure_route.specs.Stored.{SumsInput}

-- a column's sum at first, and its stored entries from s to below e, of which those with greater rows can be added
pub record AddRestInput (x : SumColumn) (zeros : Bool) (size : ℕ) : Type 0 where
  pub small : x.n ≤ max_dimension
  pub inside : sum_row x x.first < x.n
  pub listed : x.first < length x.result_rows
  pub fits : x.first < size
  pub ordered : x.s ≤ x.e
  pub stored : x.e ≤ length x.rows
  pub rest : (m : ℕ) → FirstFrom (sum_row x x.first + 1) x.rows x.s x.e m → m < x.e
      → SumRestInput (terms_from (terms_of x) m) (sum_row x x.first) zeros size

-- m is where the rows greater than that of the sum at first start, and the sum is continued by them; all others are as they were
pub record RestAdded (x : SumColumn) (m : ℕ) (z z' : List Float) : Type 0 where
  pub first : FirstFrom (sum_row x x.first + 1) x.rows x.s x.e m
  pub long : length z' ≡ length z
  pub value : SumContinued (terms_from (terms_of x) m) z (sum_row x x.first) (get_or z x.first nan) (get_or z' x.first nan)
  pub others : (i : ℕ) → i ≢ x.first → get_or z' i nan ≡ get_or z i nan

-- the column's sums, and whether one of its stored values is 0.0
pub record AddRestsInput (x : SumColumn) (zeros : Bool) (size : ℕ) : Type 0 where
  pub sums : SumsInput x size
  pub zeros_are : zeros ≡ any_in (zero_at x.values) x.s x.e

-- the sums before q that had the products up to their row have all; the entries from q on are as they were
pub record RestsAdded (x : SumColumn) (q : ℕ) (z₀ z : List Float) : Type 0 where
  pub long : length z ≡ length z₀
  pub added : (i f : ℕ) → x.first ≤ i → i < q → FirstFrom (sum_row x i + 1) x.rows x.s x.e f
      → get_or z₀ i nan ≡ row_sum (terms_of x) z₀ (sum_row x i) x.s f
      → get_or z i nan ≡ entry_sum (terms_of x) z₀ (sum_row x i)
  pub after : (i : ℕ) → q ≤ i → get_or z i nan ≡ get_or z₀ i nan
