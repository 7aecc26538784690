-- The last steps in f64 of the recurrence of a factor given as L, D, L transposed: L with ones on its diagonal, D a diagonal of pivots. Assumes nothing.
use Rattle.std.specs.Prelude.{Bool, true, false, Float}
use Rattle.std.specs.Float.{binary64}
use Rattle.std.specs.Float.Ieee.{sub, div, neg}
use Rattle.exact.specs.Multiple.{one_float}
use Rattle.exact.specs.Exact.{float_off, float_on}

-- f64's last step below the diagonal: -S
abbrev pub pivot_off : Float → Float → Float
pivot_off d S = neg S

-- f64's last step on the diagonal: 1 / d - S, with d the pivot
abbrev pub pivot_on : Float → Float → Float
pivot_on d S = sub binary64 (div binary64 one_float d) S

-- f64's last steps with pivots, and without them
abbrev pub step_below : Bool → Float → Float → Float
step_below true = pivot_off
step_below false = float_off

abbrev pub step_on : Bool → Float → Float → Float
step_on true = pivot_on
step_on false = float_on
