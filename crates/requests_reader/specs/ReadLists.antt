-- A call that reads gives a request: what its reply tells of the two lists.
-- Assumes nothing.
use Rattle.std.specs.Prelude.{ℕ, ◌≤◌, ◌<◌, List, length, get_or}
use Rattle.refusal.specs.Bounds.{max_dimension, max_entries}

-- dimension and count within the bounds, both lists so long, and each pair inside on or below the diagonal
pub record ReadLists (n count : ℕ) (rows columns : List ℕ) : Type 0 where
  pub small : n ≤ max_dimension
  pub few : count ≤ max_entries
  pub rows_long : count ≤ length rows
  pub columns_long : count ≤ length columns
  pub inside : (k : ℕ) → k < count → get_or rows k 0 < n
  pub below : (k : ℕ) → k < count → get_or columns k 0 ≤ get_or rows k 0
