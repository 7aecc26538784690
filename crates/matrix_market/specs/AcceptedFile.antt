-- An accepted file is a request: what holds of a file that no step refuses.
-- Assumes nothing.
use Prim.Native.Nat.{ℕ, ◌≤◌, ◌<◌}
use Rattle.std.specs.Prelude.{◌≡◌, List, length, get_or}
use Rattle.refusal.specs.Bounds.{max_dimension, max_entries}
use Rattle.matrix_market.specs.Text.{lines}
use Rattle.matrix_market.specs.File.{header, first_line, size_fields, entries, number, dimension_of, file_requests, file_rows, file_columns}

-- the header, sizes and requests within the bounds, as many entries as counted, each request inside on or below the diagonal, and room for them
pub record AcceptedFile (text : List ℕ) (rows columns : ℕ) : Type 0 where
  pub headed : first_line (lines text) ≡ header
  pub square : number 1 (size_fields text) ≡ dimension_of text
  pub small : dimension_of text ≤ max_dimension
  pub counted : length (entries text) ≡ number 2 (size_fields text)
  pub few : length (file_requests text) ≤ max_entries
  pub rows_long : length (file_rows text) ≡ length (file_requests text)
  pub columns_long : length (file_columns text) ≡ length (file_requests text)
  pub inside : (k : ℕ) → k < length (file_requests text) → get_or (file_rows text) k 0 < dimension_of text
  pub below : (k : ℕ) → k < length (file_requests text) → get_or (file_columns text) k 0 ≤ get_or (file_rows text) k 0
  pub rows_room : length (file_requests text) ≤ rows
  pub columns_room : length (file_requests text) ≤ columns

-- ---- an entry inside
-- indices from 1 to n, on or below the diagonal
pub record InsidePair (n row column : ℕ) : Type 0 where
  pub row_least : 0 < row
  pub row_most : row ≤ n
  pub column_least : 0 < column
  pub column_most : column ≤ row

-- ---- the requests of a file
-- inside n, on or below the diagonal
pub record InsideRequest (n : ℕ) (rows columns : List ℕ) (k : ℕ) : Type 0 where
  pub inside : get_or rows k 0 < n
  pub below : get_or columns k 0 ≤ get_or rows k 0
