-- The products of one descendant of a column, added to its sums.
-- Assumes nothing.
use Rattle.std.specs.Prelude.{ℕ, ◌+◌, ◌-◌, ◌≤◌, ◌<◌, List, length, get_or, Float}
use Rattle.std.specs.Float.{binary64, nan}
use Rattle.std.specs.Float.Ieee.{add, mul}
use Rattle.refusal.specs.Bounds.{max_dimension}
use Rattle.pairs.specs.Positions.{position_at}
use Rattle.columns.specs.Columns.{row}
use Rattle.pair_places.specs.Position.{PairEntryInput}
use Rattle.closure_route.specs.Run.{row_positions}

-- the entry at q, with the product of l and the entry at another position
abbrev pub with_term : List Float → ℕ → Float → ℕ → Float
with_term z q l position = add binary64 (get_or z q nan) (mul binary64 l (get_or z position nan))

-- the same, where the positions follow one another
abbrev pub run_terms : ℕ → ℕ → Float → List Float → ℕ → Float
run_terms from position l z q = with_term z q l (position + (q - from))

-- the same, where the position for a row stands in the word `base` further
abbrev pub row_terms : ℕ → Float → List ℕ → List ℕ → List Float → ℕ → Float
row_terms base l result_rows scratch z q = with_term z q l (row_positions base result_rows scratch q)

-- the entry at q, with the product of l and the inverse's entry for its row and k
abbrev pub column_terms : ℕ → ℕ → Float → List ℕ → List ℕ → List Float → ℕ → Float
column_terms n k l result_rows scratch z q = with_term z q l (position_at n scratch (row result_rows q) k)

-- the entries from `from` to below last, and as many from a position behind them
pub record AddRunInput (from last position size : ℕ) : Type 0 where
  pub ordered : from ≤ last
  pub behind : last ≤ position
  pub fits : position + (last - from) ≤ size

-- the entry at q and the one whose position is the word
pub record AddAtInput (q word : ℕ) (scratch : List ℕ) (size : ℕ) : Type 0 where
  pub fits : q < size
  pub inside : word < length scratch
  pub known : get_or scratch word 0 < size

-- the entries from `from` to below last, and for the row of each a word with a position behind them
pub record AddRowsInput (base from last : ℕ) (result_rows scratch : List ℕ) (size : ℕ) : Type 0 where
  pub ordered : from ≤ last
  pub listed : last ≤ length result_rows
  pub words : (q : ℕ) → from ≤ q → q < last → AddAtInput q (base + row result_rows q) scratch size
  pub behind : (q : ℕ) → from ≤ q → q < last → last ≤ row_positions base result_rows scratch q

-- the entries from `from` to below last, to which the products of the descendant k can be added, made of entries behind them that rise with the row
pub record AddColumnInput (n k from last : ℕ) (result_rows scratch : List ℕ) (size : ℕ) : Type 0 where
  pub small : n ≤ max_dimension
  pub right : k < n
  pub some : from < last
  pub fits : last ≤ size
  pub listed : last ≤ length result_rows
  pub below : (q : ℕ) → from ≤ q → q < last → k ≤ row result_rows q
  pub reads : (q : ℕ) → from ≤ q → q < last → PairEntryInput n (row result_rows q) k scratch size
  pub behind : (q : ℕ) → from ≤ q → q < last → last ≤ position_at n scratch (row result_rows q) k
  pub rises : (q q' : ℕ) → from ≤ q → q < q' → q' < last
      → position_at n scratch (row result_rows q) k < position_at n scratch (row result_rows q') k
