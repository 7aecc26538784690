-- Whether every diagonal and kept entry of a factor is marked: what the choice between the routes asks.
-- Assumes nothing.
use Rattle.std.specs.Prelude.{ℕ, ◌≤◌, ◌<◌, ◌≡◌, Bool, not, ◌&&◌, ◌||◌, List, leb, length, Float}
use Rattle.std.specs.Float.Ieee.{ne}
use Rattle.lists.specs.Test.{any_in}
use Rattle.refusal.specs.Bounds.{max_dimension}
use Rattle.pairs.specs.Scratch.{queue_start}
use Rattle.pairs.specs.ColumnOrder.{column_marking, set_size}
use Rattle.columns.specs.Columns.{row, value}
use Rattle.columns.specs.Kept.{f0, nonzero, pattern}
use Rattle.columns.specs.Form.{pattern_pairs}
use Rattle.columns.specs.Factor.{Factor}

-- an accepted factor with its count, and a marked set with its size
pub record ChoiceInput (n : ℕ) (starts rows : List ℕ) (values : List Float) (kept closed : ℕ) (scratch : List ℕ) : Type 0 where
  pub small : n ≤ max_dimension
  pub factor : Factor n starts rows (length values)
  pub room : queue_start n ≤ length scratch
  pub kept_is : kept ≡ pattern_pairs n (pattern starts rows (nonzero values))
  pub closed_is : closed ≡ set_size n (column_marking n scratch)

-- an entry of column c with row r and value l is kept and its pair is not marked
abbrev pub unmarked_entry : ℕ → List ℕ → ℕ → ℕ → Float → Bool
unmarked_entry n scratch c r l = (leb c r && ne l f0) && not (column_marking n scratch r c)

-- the stored entry at p
abbrev pub unmarked_at : ℕ → List ℕ → List ℕ → List Float → ℕ → ℕ → Bool
unmarked_at n scratch rows values c p = unmarked_entry n scratch c (row rows p) (value values p)

-- the diagonal of column c, or an entry of it from s to below e
abbrev pub unmarked_between : ℕ → List ℕ → List ℕ → List Float → ℕ → ℕ → ℕ → Bool
unmarked_between n scratch rows values c s e = not (column_marking n scratch c c) || any_in (unmarked_at n scratch rows values c) s e

-- a stored column, from s to below e, whose pairs have marks among `words`
pub record ChoiceColumnInput (n : ℕ) (rows : List ℕ) (values s e words : ℕ) : Type 0 where
  pub small : n ≤ max_dimension
  pub ordered : s ≤ e
  pub stored : e ≤ length rows
  pub weighed : e ≤ values
  pub inside : (p : ℕ) → s ≤ p → p < e → row rows p < n
  pub room : queue_start n ≤ words
