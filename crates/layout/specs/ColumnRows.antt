-- The rows of a column's marked pairs, ascending, listed behind other rows: what listing them asks and leaves.
-- Assumes nothing.
use Rattle.std.specs.Prelude.{ℕ, ◌+◌, ◌≤◌, ◌<◌, ◌≡◌, Bool, List, length}
use Rattle.lists.specs.Select.{select, tally}
use Rattle.lists.specs.Overwrite.{splice}
use Rattle.refusal.specs.Bounds.{max_dimension}
use Rattle.pairs.specs.Pair.{pair_total}
use Rattle.pairs.specs.Scratch.{queue_start}
use Rattle.pairs.specs.ColumnOrder.{col_start, by_column, column_marking}

-- the marks of a column
abbrev pub column_test : ℕ → List ℕ → ℕ → ℕ → Bool
column_test n s c = by_column (column_marking n s) c

-- the column's marks start at `place`, and there is room for its rows
pub record ListColumnInput (n place c first : ℕ) (rows s : List ℕ) : Type 0 where
  pub small : n ≤ max_dimension
  pub inside : c < n
  pub start : place ≡ col_start n c
  pub room : queue_start n + pair_total n ≤ length s
  pub fits : first + tally (column_test n s c) c n ≤ length rows

-- the marked rows of column c below e stand behind `first` rows, up to `count`
pub record ColumnListed (n c e first : ℕ) (rows₀ s rows : List ℕ) (count : ℕ) : Type 0 where
  pub count_is : count ≡ first + tally (column_test n s c) c e
  pub rows_is : rows ≡ splice first (select (column_test n s c) c e) rows₀
