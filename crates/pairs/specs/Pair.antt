-- Pairs (r, c) with c ≤ r < n: how many there are, their places row by row, and the pairs of a set ascending by row then column.
-- Assumes nothing.
use Rattle.std.specs.Prelude.{ℕ, ◌+◌, ◌*◌, ◌/◌, min, max, Bool, ◌&&◌, List, eqb}
use Rattle.refusal.specs.Bounds.{max_dimension}
use Rattle.lists.specs.Cells.{cells, cell_count}

-- T, the number of pairs
unfoldable pub pair_total : ℕ → ℕ
pair_total n = n * (n + 1) / 2

-- the place of (r, c), row by row
abbrev pub row_place : ℕ → ℕ → ℕ
row_place r c = pair_total r + c

-- (r, c) is the pair of a and b, put in order
abbrev pub ordered : ℕ → ℕ → ℕ → ℕ → Bool
ordered a b r c = eqb (max a b) r && eqb (min a b) c

-- the first column of a row, and the end of a row
abbrev pub row_start : ℕ → ℕ
row_start r = 0

abbrev pub row_end : ℕ → ℕ
row_end r = r + 1

-- the pairs of a set ascending by row then column: their rows, their columns, how many they are
abbrev pub pair_rows : ℕ → (ℕ → ℕ → Bool) → List ℕ
pair_rows n S = cells S row_start row_end (λ r c. r) n

abbrev pub pair_columns : ℕ → (ℕ → ℕ → Bool) → List ℕ
pair_columns n S = cells S row_start row_end (λ r c. c) n

abbrev pub pair_count : ℕ → (ℕ → ℕ → Bool) → ℕ
pair_count n S = cell_count S row_start row_end n

-- T at the largest dimension
abbrev pub max_pairs : ℕ
max_pairs = max_dimension * (max_dimension + 1) / 2
