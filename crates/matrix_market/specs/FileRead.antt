-- The file of a set of pairs is accepted by the reader, which gives back the dimension, the number of pairs, and the set.
-- Assumes nothing.
use Rattle.std.specs.Prelude.{ℕ, ◌+◌, Bool}
use mathlib.Core.List.{List, [], ◌∷◌, map}
use Rattle.lists.specs.Cells.{cells}
use Rattle.pairs.specs.ColumnOrder.{by_column, column_first, column_end}
use Rattle.matrix_market.specs.Decimal.{decimal}

-- the fields of an entry line
abbrev pub entry_fields : ℕ → ℕ → List (List ℕ)
entry_fields c r = map decimal ((r + 1) ∷ ((c + 1) ∷ []))

-- a set's pairs, by column then row
abbrev pub pair_list : ℕ → (ℕ → ℕ → Bool) → List (ℕ × ℕ)
pair_list n S = cells (by_column S) column_first (column_end n) (λ c r. (r, c)) n
