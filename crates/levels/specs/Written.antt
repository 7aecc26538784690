-- A chain written to the front of two lists, from its end back to its first pair.
-- Assumes nothing.
use Rattle.std.specs.Prelude.{ℕ, ◌+◌, ◌*◌, ◌≤◌, ◌<◌, List, map, length}
use Rattle.refusal.specs.Bounds.{max_dimension}
use Rattle.pairs.specs.Pair.{pair_total}
use Rattle.columns.specs.Factor.{Factor}

-- the rows and the columns of a list of pairs
abbrev pub rows_of : List (ℕ × ℕ) → List ℕ
rows_of l = map (λ p. p.0) l

abbrev pub columns_of : List (ℕ × ℕ) → List ℕ
columns_of l = map (λ p. p.1) l

-- a factor, a pair in order, and the words of the levels
pub record BackInput (n : ℕ) (starts rows : List ℕ) (values r c : ℕ) (s : List ℕ) : Type 0 where
  pub small : n ≤ max_dimension
  pub factor : Factor n starts rows values
  pub room : pair_total n ≤ length s
  pub ordered : c ≤ r
  pub inside : r < n

-- the same with the pair's level, and room for so many pairs
pub record WriteInput (n : ℕ) (starts rows : List ℕ) (values r c level : ℕ) (s : List ℕ) (rowsRoom columnsRoom : ℕ) : Type 0 where
  pub back : BackInput n starts rows values r c s
  pub positive : 0 < level
  pub short : level ≤ 2 * n + 1
  pub rows_room : level ≤ rowsRoom
  pub columns_room : level ≤ columnsRoom
