-- The result of a selected inverse over a set of pairs: starts, rows and values, column by column, the rows of each ascending.
-- Assumes nothing.
use Rattle.std.specs.Prelude.{ℕ, ◌+◌, Bool, List, Float}
use Rattle.lists.specs.Select.{tally}
use Rattle.lists.specs.Tabulate.{tabulate}
use Rattle.lists.specs.Cells.{cells, cell_count}
use Rattle.pairs.specs.ColumnOrder.{by_column, column_first, column_end}
use Rattle.columns.specs.Columns.{value}
use Rattle.columns.specs.Kept.{diag, desc}
use Rattle.columns.specs.Form.{Form, cholesky, pivoted}
use Rattle.takahashi.specs.Recurrence.{table}
use Rattle.exact.specs.Exact.{floats, float_off, float_on}
use Rattle.exact.specs.PivotCase.{pivot_off, pivot_on}

-- how many pairs of the set the columns before c have
abbrev pub column_count : ℕ → (ℕ → ℕ → Bool) → ℕ → ℕ
column_count n S c = cell_count (by_column S) column_first (column_end n) c

-- where (r, c) stands among the set's pairs
abbrev pub position : ℕ → (ℕ → ℕ → Bool) → ℕ → ℕ → ℕ
position n S r c = column_count n S c + tally (by_column S c) c r

-- the n + 1 starts
abbrev pub entry_starts : ℕ → (ℕ → ℕ → Bool) → List ℕ
entry_starts n S = tabulate (column_count n S) (n + 1)

-- the rows
abbrev pub entry_rows : ℕ → (ℕ → ℕ → Bool) → List ℕ
entry_rows n S = cells (by_column S) column_first (column_end n) (λ c r. r) n

-- the values, those of a table at the set's pairs
abbrev pub entry_values : {A : Type 0} → ℕ → (ℕ → ℕ → Bool) → (ℕ → ℕ → A) → List A
entry_values n S Z = cells (by_column S) column_first (column_end n) (λ c r. Z r c) n

-- Takahashi's recurrence in f64 for a factor, at all pairs
unfoldable pub float_table : ℕ → List ℕ → List ℕ → List Float → ℕ → ℕ → Float
float_table n starts rows values = table floats float_off float_on n (diag starts rows values) (desc starts rows values)

-- the same for a factor with pivots
unfoldable pub pivot_table : ℕ → List ℕ → List ℕ → List Float → List Float → ℕ → ℕ → Float
pivot_table n starts rows values pivots = table floats pivot_off pivot_on n (value pivots) (desc starts rows values)

-- the last steps of an entry below the diagonal and on it, and the table, by how the factor is given
abbrev pub below_step : Form → Float → Float → Float
below_step cholesky = float_off
below_step (pivoted pivots) = pivot_off

abbrev pub diagonal_step : Form → Float → Float → Float
diagonal_step cholesky = float_on
diagonal_step (pivoted pivots) = pivot_on

abbrev pub form_table : Form → ℕ → List ℕ → List ℕ → List Float → ℕ → ℕ → Float
form_table cholesky n starts rows values = float_table n starts rows values
form_table (pivoted pivots) n starts rows values = pivot_table n starts rows values pivots
