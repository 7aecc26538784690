-- What a factor has that passes steps 1, 2 and 3: starts that rise, columns whose rows ascend; and that such a factor passes.
-- Assumes nothing.
use Prim.Native.Nat.{ℕ, zero, ◌+◌, ◌-◌, ◌≤◌, ◌<◌}
use Rattle.std.specs.Prelude.{◌≡◌, false, List, length}
use Rattle.lists.specs.Test.{any_in}
use Rattle.refusal.specs.Bounds.{max_dimension, max_entries}
use Rattle.columns.specs.Columns.{start, row, outside_at}

-- the rows from s to below e ascend
abbrev pub Ascends : List ℕ → ℕ → ℕ → Type 0
Ascends rows s e = (q p : ℕ) → s ≤ q → q < p → p < e → row rows q < row rows p

-- past 1
pub record FactorBounded (n entries : ℕ) : Type 0 where
  pub small : n ≤ max_dimension
  pub few : entries ≤ max_entries

-- starts that are not broken
pub record Unbroken (n : ℕ) (starts : List ℕ) (indices values : ℕ) : Type 0 where
  pub zero : start starts 0 ≡ 0
  pub rising : (c : ℕ) → c < n → start starts c ≤ start starts (c + 1)
  pub last : start starts n ≡ indices
  pub valued : values ≡ indices

-- past 2: n columns of stored entries
pub record Starts (n : ℕ) (starts rows : List ℕ) : Type 0 where
  pub columns : length starts ≡ n + 1
  pub zero : start starts 0 ≡ 0
  pub rising : (c : ℕ) → c < n → start starts c ≤ start starts (c + 1)
  pub last : start starts n ≡ length rows

-- past 3: rows inside, and ascending along each column
pub record Sorted (n : ℕ) (starts rows : List ℕ) : Type 0 where
  pub inside : (p : ℕ) → p < length rows → row rows p < n
  pub above : (c p : ℕ) → c < n → start starts c < p → p < start starts (c + 1) → row rows (p - 1) < row rows p

-- past 2 and 3; `values` is the number of values
pub record Factor (n : ℕ) (starts rows : List ℕ) (values : ℕ) : Type 0 where
  pub starts_rise : Starts n starts rows
  pub rows_ascend : Sorted n starts rows
  pub valued : values ≡ length rows

-- one column of a factor, from s to below e
pub record Column (rows : List ℕ) (values s e : ℕ) : Type 0 where
  pub ordered : s ≤ e
  pub stored : e ≤ length rows
  pub weighed : e ≤ values
  pub ascends : (q p : ℕ) → s ≤ q → q < p → p < e → row rows q < row rows p

-- r is the first place from s to below e whose row is c or more, e if none
pub record FirstFrom (c : ℕ) (rows : List ℕ) (s e r : ℕ) : Type 0 where
  pub from : s ≤ r
  pub upto : r ≤ e
  pub before : any_in (outside_at c rows) s r ≡ false
  pub stops : r < e → c ≤ row rows r
