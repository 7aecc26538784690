-- The sums of a column, stored at the places of its entries below the diagonal.
-- Assumes nothing.
use Rattle.std.specs.Prelude.{ℕ, ◌≤◌, ◌<◌, ◌≡◌, List, length, get_or, Float}
use Rattle.std.specs.Float.{nan}
use Rattle.refusal.specs.Bounds.{max_dimension}
use Rattle.columns.specs.Columns.{row}
use Rattle.columns.specs.Factor.{Ascends, Column}
use Rattle.closure_route.specs.Column.{SumColumn, terms_of, TermAt, term_position, sum_row, SumAt}
use Rattle.closure_route.specs.Sums.{entry_sum, SumInput}

-- the sums of a column can be taken for its rows below j, from entries behind them, whose positions rise with either row of a pair along a column
pub record StoreSumsInput (x : SumColumn) (size : ℕ) : Type 0 where
  pub small : x.n ≤ max_dimension
  pub inside : x.j < x.n
  pub ordered : x.first ≤ x.last
  pub fits : x.last ≤ size
  pub listed : x.last ≤ length x.result_rows
  pub column : Column x.rows (length x.values) x.s x.e
  pub ascends : Ascends x.result_rows x.first x.last
  pub sums : (q : ℕ) → SumAt x q → SumInput (terms_of x) (sum_row x q) size
  pub behind : (q p : ℕ) → SumAt x q → TermAt (terms_of x) p → x.last ≤ term_position (terms_of x) (sum_row x q) p
  pub rises : (q q' p : ℕ) → SumAt x q → q < q' → q' < x.last → TermAt (terms_of x) p → row x.rows p ≤ sum_row x q
      → term_position (terms_of x) (sum_row x q) p < term_position (terms_of x) (sum_row x q') p
  pub follows : (q p p' : ℕ) → SumAt x q → TermAt (terms_of x) p → p < p' → TermAt (terms_of x) p' → sum_row x q < row x.rows p
      → term_position (terms_of x) (sum_row x q) p < term_position (terms_of x) (sum_row x q) p'

-- the sums of the rows below j are stored, and the entries from last on are as they were
pub record SumsStored (x : SumColumn) (z₀ z : List Float) : Type 0 where
  pub long : length z ≡ length z₀
  pub sums : (q : ℕ) → SumAt x q → get_or z q nan ≡ entry_sum (terms_of x) z₀ (sum_row x q)
  pub after : (q : ℕ) → x.last ≤ q → get_or z q nan ≡ get_or z₀ q nan

-- the same sums, where every row is below j
pub record SumsInput (x : SumColumn) (size : ℕ) : Type 0 where
  pub storing : StoreSumsInput x size
  pub below : (q : ℕ) → x.first ≤ q → q < x.last → x.j < sum_row x q
