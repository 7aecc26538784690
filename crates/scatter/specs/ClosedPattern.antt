-- The pattern that the route runs on, and its layout: how many descendants a column has, where columns start, which row stands where.
-- Assumes nothing.
use Rattle.std.specs.Prelude.{List, ℕ, zero, suc}
use Rattle.takahashi.specs.Recurrence.{Entry}
use Rattle.scatter.specs.Scatter.{row_at}

module _ {W : Type 0} (none : W) where
  -- the rows of a column, its own first
  abbrev pub cell : (ℕ → List (Entry W)) → ℕ → ℕ → ℕ
  cell desc c zero = c
  cell desc c (suc p) = row_at none (desc c) p
