-- Requests as marks, one bit for each pair, column by column.
-- Assumes nothing.
use Rattle.std.specs.Prelude.{ℕ, ◌≤◌, ◌<◌, ◌≡◌, Bool, List, length, get_or}
use Rattle.lists.specs.Test.{any}
use Rattle.refusal.specs.Bounds.{max_dimension}
use Rattle.pairs.specs.Pair.{ordered}
use Rattle.pairs.specs.Scratch.{mark_words}
use Rattle.pairs.specs.ColumnOrder.{column_marking}
use Rattle.closed_set.specs.Requests.{requested, Requests}

-- marks of all pairs of n columns, and a list that takes a column's rows
pub record MarksListed (n : ℕ) (marks list : List ℕ) : Type 0 where
  pub small : n ≤ max_dimension
  pub all : length marks ≡ mark_words n
  pub room : n ≤ length list

-- requests past their checks, and marks of all pairs
pub record MarkInput (n : ℕ) (rows columns marks : List ℕ) : Type 0 where
  pub small : n ≤ max_dimension
  pub requests : Requests n rows columns
  pub below : (k : ℕ) → k < length rows → get_or columns k 0 ≤ get_or rows k 0
  pub all : length marks ≡ mark_words n

-- the marks say just the requested pairs
pub record MarkedRequests (n : ℕ) (rows columns marks₀ marks : List ℕ) : Type 0 where
  pub marks_are : (r c : ℕ) → c ≤ r → r < n → column_marking n marks r c ≡ requested rows columns r c
  pub long : length marks ≡ length marks₀

-- the pairs of the first k requests
abbrev pub requested_to : List ℕ → List ℕ → ℕ → ℕ → ℕ → Bool
requested_to rows columns k r c = any (λ j. ordered (get_or rows j 0) (get_or columns j 0) r c) k
