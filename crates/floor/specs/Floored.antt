-- The values raised to a floor, and how many are.
-- Assumes nothing.
use Rattle.std.specs.Prelude.{ℕ, Bool, not, cond, List, length, Float}
use Rattle.std.specs.Float.Ieee.{lt}
use Rattle.lists.specs.Select.{tally}
use Rattle.lists.specs.Tabulate.{tabulate}
use Rattle.columns.specs.Columns.{value}

-- x where it is above the floor, else the floor
abbrev pub floored_value : Float → Float → Float
floored_value floor x = cond (lt floor x) x floor

-- each value, raised to the floor
abbrev pub floored : Float → List Float → List Float
floored floor values = tabulate (λ i. floored_value floor (value values i)) (length values)

-- the value at i is not above the floor
abbrev pub hit : Float → List Float → ℕ → Bool
hit floor values i = not (lt floor (value values i))

-- how many values are not above the floor
abbrev pub floor_hits : Float → List Float → ℕ
floor_hits floor values = tally (hit floor values) 0 (length values)
