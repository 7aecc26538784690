-- The floor Zero.
-- Assumes nothing.
use Rattle.std.specs.Prelude.{ℕ, ◌<◌, ◌≡◌, false, List, length, Float}
use Rattle.std.specs.Float.Ieee.{lt}
use Rattle.columns.specs.Columns.{value}
use Rattle.columns.specs.Kept.{f0}
use Rattle.floor.specs.Floored.{floored}
use Rattle.floor.specs.FlooredLaws.{floored-not_below}
use Rattle.floor.specs.declared.variance_floor.VarianceFloor.TheVariants.{Zero}
use Rattle.floor.specs.VarianceFloor.{floor_of}

-- under the floor Zero none is negative
pub zero_not-negative : (values : List Float) (i : ℕ) → i < length values → lt (value (floored (floor_of Zero values) values) i) f0 ≡ false
zero_not-negative values i l = floored-not_below f0 values i l
