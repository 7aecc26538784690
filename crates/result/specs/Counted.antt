-- The places that a lookup looks at: those of the column search where it comes to that, else none.
-- Assumes nothing.
use Prim.Native.Nat.{ℕ, ◌+◌, ◌-◌, max, min}
use Rattle.std.specs.Prelude.{List, take, drop}
use Rattle.refusal.specs.Steps.{first, settle}
use Rattle.columns.specs.Columns.{start, row}
use Rattle.result.specs.Looks.{looks}
use Rattle.result.specs.Lookup.{search_steps}

-- the rows of column c
abbrev pub column_rows : List ℕ → List ℕ → ℕ → List ℕ
column_rows starts rows c = take (start starts (c + 1) - start starts c) (drop (start starts c) rows)

-- the looks of the lookup of row r and column c, r at least c; none where it refuses before it searches
unfoldable pub entry_looks : List ℕ → List ℕ → ℕ → ℕ → ℕ → ℕ
entry_looks starts rows values r c = settle 0 (first (search_steps starts rows values r c) (looks (column_rows starts rows c) r))

-- the same with row and column exchanged if row < column; `values` is the number of values
abbrev pub lookup_looks : List ℕ → List ℕ → ℕ → ℕ → ℕ → ℕ
lookup_looks starts rows values row col = entry_looks starts rows values (max row col) (min row col)
