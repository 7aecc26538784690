-- Requests as two lists, rows and columns: the pairs that they put in order.
-- Assumes nothing.
use Rattle.std.specs.Prelude.{ℕ, ◌<◌, ◌≡◌, Bool, List, length, get_or}
use Rattle.lists.specs.Test.{any}
use Rattle.pairs.specs.Pair.{ordered}

-- (r, c) is the pair of some request, put in order
unfoldable pub requested : List ℕ → List ℕ → ℕ → ℕ → Bool
requested rows columns r c = any (λ k. ordered (get_or rows k 0) (get_or columns k 0) r c) (length rows)

-- request lists of equal length whose indices are below n
pub record Requests (n : ℕ) (rows columns : List ℕ) : Type 0 where
  pub equal : length rows ≡ length columns
  pub rows_inside : (k : ℕ) → k < length rows → get_or rows k 0 < n
  pub columns_inside : (k : ℕ) → k < length columns → get_or columns k 0 < n
