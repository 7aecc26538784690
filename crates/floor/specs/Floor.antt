-- A floor under variances: what the call answers and leaves.
-- Assumes nothing.
use Rattle.std.specs.Prelude.{◌≡◌, List, length, Float}
use Rattle.lists.specs.Overwrite.{overwrite}
use Rattle.refusal.specs.Steps.{Reply, first, after}
use Rattle.floor.specs.Floored.{floored, floor_hits}
use Rattle.floor.specs.declared.variance_floor.VarianceFloor.{VarianceFloor}
use Rattle.floor.specs.VarianceFloor.{floor_steps, floor_of}
use Rattle.floor.specs.declared.StabilizedVariance.{StabilizedVariance}

-- what the call answers
abbrev pub stabilized_of : VarianceFloor → List Float → StabilizedVariance
stabilized_of floor values = record { floor = floor_of floor values; floor_hits = floor_hits (floor_of floor values) values }

-- the reply of a call, and the values raised to the floor at the front of the output, which is given as it was lent, then as it is left
pub record VariancesStabilized (floor : VarianceFloor) (values output : List Float) (reply : Reply StabilizedVariance) (left : List Float) : Type 0 where
  pub replies : reply ≡ first (floor_steps floor values (length output)) (stabilized_of floor values)
  pub output_after_lem : left ≡ after (floor_steps floor values (length output)) (overwrite (floored (floor_of floor values) values) output) output
