-- What a lookup finds in the lists that a selected inverse fills: the entry of each pair of the set, and 8 for every other pair.
-- The lists of rows and values may be longer than the set; only the filled starts are lent.
-- Assumes nothing.
use Rattle.std.specs.Prelude.{ℕ, max, min, Bool, cond, ◌&&◌, ltb}
use Rattle.refusal.specs.Steps.{Reply, refused, answered}
use Rattle.columns.specs.Columns.{row}
use Rattle.takahashi.specs.Recurrence.{at}

-- (row, col), exchanged if row < col, is a pair of the set
abbrev pub covered : ℕ → (ℕ → ℕ → Bool) → ℕ → ℕ → Bool
covered n S row col = ltb (max row col) n && S (max row col) (min row col)

-- the table's entry at a pair of the set; 8 at every other pair
abbrev pub read_back : {A : Type 0} → ℕ → (ℕ → ℕ → Bool) → (ℕ → ℕ → A) → ℕ → ℕ → Reply A
read_back n S Z row col = cond (covered n S row col) (answered (at Z row col)) (refused 8)
