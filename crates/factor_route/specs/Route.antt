-- A call of the factor-pattern route: what it asks, and what one column and all columns leave.
-- Assumes nothing.
use Rattle.std.specs.Prelude.{ℕ, ◌+◌, ◌≤◌, ◌≡◌, List, length, get_or, take, Float}
use Rattle.refusal.specs.Bounds.{max_dimension}
use Rattle.lists.specs.Overwrite.{splice}
use Rattle.pairs.specs.ColumnOrder.{set_size}
use Rattle.columns.specs.Kept.{nonzero, desc, pattern}
use Rattle.columns.specs.Factor.{Factor}
use Rattle.columns.specs.Form.{Form, Divisors, pattern_pair}
use Rattle.closed_set.specs.ClosedSet.{Closed}
use Rattle.entries.specs.Entries.{entry_starts, entry_rows, form_table}
use Rattle.scatter.specs.Scatter.{column_values}
use Rattle.scatter.specs.Marks.{empties}

-- an accepted factor in a form, whose pattern is closed, the starts and rows of the result over that pattern at the front of their lists, and room for
-- its values in a list of `total`
pub record RouteInput (form : Form) (n : ℕ) (starts rows : List ℕ) (values : List Float) (es er : List ℕ) (total : ℕ) : Type 0 where
  pub small : n ≤ max_dimension
  pub factor : Factor n starts rows (length values)
  pub divisors : Divisors n starts rows values form
  pub closed : Closed n (pattern starts rows (nonzero values)) (pattern_pair starts rows (nonzero values))
  pub laid_starts : take (n + 1) es ≡ entry_starts n (pattern_pair starts rows (nonzero values))
  pub laid_rows : take (set_size n (pattern_pair starts rows (nonzero values))) er ≡ entry_rows n (pattern_pair starts rows (nonzero values))
  pub room : set_size n (pattern_pair starts rows (nonzero values)) ≤ total

-- the work rows between two columns: an empty marker, and as many weights and sums
pub record WorkRows (marker : List ℕ) (weights sums : List Float) : Type 0 where
  pub marker_is : marker ≡ empties
  pub weights_long : length weights ≡ max_dimension
  pub sums_long : length sums ≡ max_dimension

-- column j of the recurrence
abbrev pub table_column : Form → ℕ → List ℕ → List ℕ → List Float → ℕ → List Float
table_column form n starts rows values j = column_values (form_table form n starts rows values) (desc starts rows values) j

-- after column j: it is written, and the work rows are at rest
pub record ColumnWritten (form : Form) (n : ℕ) (starts rows : List ℕ) (values : List Float) (es : List ℕ) (j : ℕ) (v v' : List Float)
    (marker : List ℕ) (weights sums : List Float) : Type 0 where
  pub rest : WorkRows marker weights sums
  pub values_are : v' ≡ splice (get_or es j 0) (table_column form n starts rows values j) v
