-- Which of the two a divisor is, and its number.
-- Assumes nothing.
use Rattle.std.specs.Prelude.{Bool, true, false, Float}
use Rattle.last_steps.specs.declared.Divisor.{Divisor}
use Rattle.last_steps.specs.declared.Divisor.TheVariants.{Diagonal, Pivot}

-- it is a pivot
abbrev pub is_pivot : Divisor → Bool
is_pivot (Diagonal d) = false
is_pivot (Pivot d) = true

-- the diagonal or the pivot itself
abbrev pub number : Divisor → Float
number (Diagonal d) = d
number (Pivot d) = d
