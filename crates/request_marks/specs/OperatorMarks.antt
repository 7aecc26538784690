-- What marking an operator's pairs asks.
-- Assumes nothing.
use Rattle.std.specs.Prelude.{ℕ, ◌+◌, ◌≤◌, ◌<◌, List, length, get_or}
use Rattle.refusal.specs.Bounds.{max_dimension}
use Rattle.pairs.specs.Pair.{pair_total}
use Rattle.pairs.specs.Scratch.{queue_start}
use Rattle.columns.specs.Operator.{OperatorRows}
use Rattle.marked_pairs.specs.MarkedPairs.{Marked}

-- an operator past its checks, and words for its pairs' marks
pub record OperatorInput (n : ℕ) (row_starts columns s : List ℕ) : Type 0 where
  pub small : n ≤ max_dimension
  pub rows : OperatorRows n row_starts columns (length columns)
  pub room : queue_start n + pair_total n ≤ length s

-- the columns from s to below e of an operator, and the words that their pairs are marked in
pub record RowInput (n : ℕ) (columns : List ℕ) (s e : ℕ) (words : List ℕ) (count : ℕ) : Type 0 where
  pub small : n ≤ max_dimension
  pub ordered : s ≤ e
  pub stored : e ≤ length columns
  pub inside : (p : ℕ) → p < length columns → get_or columns p 0 < n
  pub marked : Marked n words count
