-- The descendants of a column as marker, weights and sums: what marking leaves.
-- Assumes nothing.
use Rattle.std.specs.Prelude.{ℕ, ◌+◌, ◌≤◌, ◌<◌, ◌≡◌, Bool, cond, ◌&&◌, List, map, ltb, length, set, Float}
use Rattle.std.specs.Float.{nan}
use Rattle.std.specs.Float.Ieee.{ne}
use Rattle.refusal.specs.Bounds.{max_dimension}
use Rattle.lists.specs.Select.{select}
use Rattle.takahashi.specs.Recurrence.{Entry}
use Rattle.exact.specs.Multiple.{zero_float}
use Rattle.columns.specs.Columns.{row}
use Rattle.columns.specs.Kept.{f0, nonzero, entry, kept_below}
use Rattle.scatter.specs.Scatter.{marks, weigh, clear}

-- the descendants of column c among the entries from s to below e
abbrev pub desc_between : List ℕ → List Float → ℕ → ℕ → ℕ → List (Entry Float)
desc_between rows values c s e = map (entry rows values) (select (kept_below rows (nonzero values) c) s e)

-- an entry of row r and value l is a descendant of column c
abbrev pub is_descendant : ℕ → ℕ → Float → Bool
is_descendant c r l = ltb c r && ne l f0

-- one entry of row r and value l: a descendant takes the position m
pub record EntryMarked (c r : ℕ) (l : Float) (m next : ℕ) (marker : List ℕ) (weights sums : List Float)
    (marker' : List ℕ) (weights' sums' : List Float) : Type 0 where
  pub next_is : next ≡ cond (is_descendant c r l) (m + 1) m
  pub marker_is : marker' ≡ cond (is_descendant c r l) (set marker r m) marker
  pub weights_is : weights' ≡ cond (is_descendant c r l) (set weights m l) weights
  pub sums_is : sums' ≡ cond (is_descendant c r l) (set sums m f0) sums

-- the descendants es, m of them: each one's position at its row, its value and the sum 0.0 at its position
pub record ColumnMarked (es : List (Entry Float)) (m : ℕ) (marker : List ℕ) (weights sums : List Float)
    (marker' : List ℕ) (weights' sums' : List Float) : Type 0 where
  pub count : m ≡ length es
  pub marker_is : marker' ≡ marks nan es marker m
  pub weights_is : weights' ≡ weigh nan es weights m
  pub sums_is : sums' ≡ clear zero_float sums m

-- a stored column, with rows and descendants for the work rows
pub record Stored (rows : List ℕ) (values : List Float) (c s e : ℕ) : Type 0 where
  pub ordered : s ≤ e
  pub stored : e ≤ length rows
  pub weighed : e ≤ length values
  pub fits : (p : ℕ) → s ≤ p → p < e → row rows p < max_dimension
  pub few : length (desc_between rows values c s e) < max_dimension
