-- A floor that is asked for: what is refused, and its value.
-- Assumes nothing.
use Rattle.std.specs.Prelude.{ℕ, Bool, false, not, ◌||◌, List, [], ◌∷◌, ltb, length, Float}
use Rattle.std.specs.Float.{binary64}
use Rattle.std.specs.Float.Ieee.{mul, lt}
use Rattle.std.specs.Float.Ieee.Scale.{finite}
use Rattle.lists.specs.Test.{any}
use Rattle.refusal.specs.Bounds.{max_entries}
use Rattle.refusal.specs.Steps.{Step}
use Rattle.columns.specs.Kept.{f0, not_finite}
use Rattle.floor.specs.PositiveMean.{mean_level}
use Rattle.floor.specs.declared.variance_floor.VarianceFloor.{VarianceFloor}
use Rattle.floor.specs.declared.variance_floor.VarianceFloor.TheVariants.{Zero, PositiveMean}

-- PositiveMean's scale is not finite, or below 0.0
abbrev pub bad_scale : VarianceFloor → Bool
bad_scale Zero = false
bad_scale (PositiveMean scale) = not (finite scale) || lt scale f0

-- what the call refuses, for an output of `room` places
abbrev pub floor_steps : VarianceFloor → List Float → ℕ → List Step
floor_steps floor values room =
    (1, ltb max_entries (length values)) ∷ (13, any (not_finite values) (length values)) ∷ (14, bad_scale floor) ∷ (7, ltb room (length values)) ∷ []

-- the floor: 0.0, or the level of the positive values times the scale
abbrev pub floor_of : VarianceFloor → List Float → Float
floor_of Zero values = f0
floor_of (PositiveMean scale) values = mul binary64 (mean_level values) scale
