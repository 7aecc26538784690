-- What is refused of a list of pivots, 4, 18 and 6, and which kept diagonals are 1; and what pivots have that pass.
-- Assumes nothing.
use Rattle.std.specs.Prelude.{ℕ, Bool, List, [], ◌∷◌, eqb, length, Float}
use Rattle.std.proofs.Math.Bool.{not}
use Rattle.std.specs.Float.Ieee.{eq, le}
use Rattle.lists.specs.Test.{any}
use Rattle.refusal.specs.Steps.{Step}
use Rattle.columns.specs.Columns.{value}
use Rattle.columns.specs.Kept.{f0, f1, not_finite}

-- the value at p is 1
abbrev pub float_one : List Float → ℕ → Bool
float_one values p = eq (value values p) f1

-- 4: not one pivot for each of n columns; then 18: a pivot that is not finite
unfoldable pub pivot_list_steps : ℕ → List Float → List Step
pivot_list_steps n pivots = (4, not (eqb (length pivots) n)) ∷ (18, any (not_finite pivots) (length pivots)) ∷ []

-- the pivot of column c is at most 0.0
abbrev pub low_pivot : List Float → ℕ → Bool
low_pivot pivots c = le (value pivots c) f0

-- 6: a pivot at most 0.0
unfoldable pub pivot_steps : ℕ → List Float → List Step
pivot_steps n pivots = (6, any (low_pivot pivots) n) ∷ []
