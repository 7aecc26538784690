-- Bytes written to a text, and those of a file's lines: what the functions that write them promise.
-- Assumes nothing.
use Rattle.std.specs.Prelude.{ℕ, ◌+◌, ◌*◌, ◌≤◌, ◌<◌, ◌≡◌, Bool, List, [], ◌∷◌, ◌++◌, map, length, get_or}
use Rattle.lists.specs.Overwrite.{splice}
use Rattle.lists.specs.Cells.{cells}
use Rattle.refusal.specs.Bounds.{max_dimension}
use Rattle.pairs.specs.Pair.{max_pairs}
use Rattle.pairs.specs.ColumnOrder.{by_column, column_first, column_end}
use Rattle.matrix_market.specs.Text.{joined}
use Rattle.matrix_market.specs.File.{header}
use Rattle.matrix_market.specs.FileOf.{size_line, entry_line}

-- bytes are written over a text from `place` on, and end before `next`
pub record Wrote (bytes : List ℕ) (place : ℕ) (text text' : List ℕ) (next : ℕ) : Type 0 where
  pub text_is : text' ≡ splice place bytes text
  pub next_is : next ≡ place + length bytes

-- ---- the bytes of lines
-- the line of row r of column c, with its end
unfoldable pub entry_bytes : ℕ → ℕ → List ℕ
entry_bytes c r = entry_line c r ++ (10 ∷ [])

-- the lines of these rows of column c
unfoldable pub rows_bytes : ℕ → List ℕ → List ℕ
rows_bytes c rows = joined 10 (map (entry_line c) rows)

-- the lines of a set's pairs of the first m columns
unfoldable pub columns_bytes : ℕ → (ℕ → ℕ → Bool) → ℕ → List ℕ
columns_bytes n S m = joined 10 (cells (by_column S) column_first (column_end n) entry_line m)

-- the header and the size line
unfoldable pub head_bytes : ℕ → ℕ → List ℕ
head_bytes n count = joined 10 (header ∷ (size_line n count ∷ []))

-- more bytes than an entry line, or the first two lines, have
abbrev pub line_most : ℕ
line_most = 2 * max_dimension + 4

abbrev pub head_most : ℕ
head_most = 2 * max_dimension + max_pairs + 57

-- rows of column c are listed, `count` of them
pub record RowsInside (c : ℕ) (rows : List ℕ) (count : ℕ) : Type 0 where
  pub column : c < max_dimension
  pub listed : count ≤ length rows
  pub few : count ≤ max_dimension
  pub inside : (k : ℕ) → k < count → get_or rows k 0 < max_dimension
