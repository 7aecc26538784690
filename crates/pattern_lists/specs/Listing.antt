-- The marked pairs of a row, written behind the pairs that are listed already.
-- Assumes nothing.
use Rattle.std.specs.Prelude.{ℕ, ◌+◌, ◌/◌, ◌≤◌, ◌<◌, ◌≡◌, List, map, length}
use Rattle.lists.specs.Select.{select, tally}
use Rattle.lists.specs.Overwrite.{overwrite, splice}
use Rattle.bits.specs.Bits.{bit_words}
use Rattle.pairs.specs.Scratch.{mark_words}
use Rattle.refusal.specs.Bounds.{max_dimension}
use Rattle.pairs.specs.Pair.{pair_total, max_pairs, pair_rows, pair_columns, pair_count}
use Rattle.pairs.specs.Marks.{marking}
use Rattle.set_bits.specs.Zeros.{Zeros}

-- the words hold `end` bits, and are few enough that their bits can be counted
pub record CountInput (end : ℕ) (marks : List ℕ) : Type 0 where
  pub stored : bit_words end ≤ length marks
  pub few : length marks ≤ max_pairs
  pub small : end ≤ max_pairs

-- there is room for the row's marked pairs
pub record ListRowInput (marks : List ℕ) (r count : ℕ) (rows columns : List ℕ) : Type 0 where
  pub small : r < max_dimension
  pub stored : mark_words (r + 1) ≤ length marks
  pub rows_fit : count + tally (marking marks r) 0 (r + 1) ≤ length rows
  pub columns_fit : count + tally (marking marks r) 0 (r + 1) ≤ length columns

-- the row's bits start at `place`, and from there on the words are 0 up to the word w
pub record RowReached (marks : List ℕ) (r place w : ℕ) : Type 0 where
  pub starts : place ≡ pair_total r
  pub zeros : Zeros marks (place / 32) (length marks) w
  pub small : w ≤ max_pairs

-- there is room for all marked pairs
pub record ListPairsInput (marks : List ℕ) (n : ℕ) (rows columns : List ℕ) : Type 0 where
  pub small : n ≤ max_dimension
  pub all : length marks ≡ mark_words n
  pub rows_fit : pair_count n (marking marks) ≤ length rows
  pub columns_fit : pair_count n (marking marks) ≤ length columns

-- the marked pairs of row r, behind `count` pairs
pub record RowListed (marks : List ℕ) (r count : ℕ) (rows columns rows' columns' : List ℕ) (m : ℕ) : Type 0 where
  pub count_is : m ≡ count + tally (marking marks r) 0 (r + 1)
  pub rows_is : rows' ≡ splice count (map (λ c. r) (select (marking marks r) 0 (r + 1))) rows
  pub columns_is : columns' ≡ splice count (map (λ c. c) (select (marking marks r) 0 (r + 1))) columns

-- the marked pairs of the rows below m
pub record PairsListed (marks : List ℕ) (m : ℕ) (rows columns rows' columns' : List ℕ) (count : ℕ) : Type 0 where
  pub count_is : count ≡ pair_count m (marking marks)
  pub rows_is : rows' ≡ overwrite (pair_rows m (marking marks)) rows
  pub columns_is : columns' ≡ overwrite (pair_columns m (marking marks)) columns
