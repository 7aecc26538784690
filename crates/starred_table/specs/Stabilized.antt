-- The floor and the hits that an answer shows.
-- Assumes nothing.
use Rattle.std.specs.Prelude.{ℕ, Bool, false, ◌&&◌, eqb, Float}
use Rattle.std.specs.Float.Ieee.{eq}
use Rattle.refusal.specs.Steps.{Reply, refused, answered}
use Rattle.floor.specs.declared.StabilizedVariance.{StabilizedVariance}

-- an answer has this floor and these hits
abbrev pub stabilized_as : Reply StabilizedVariance → Float → ℕ → Bool
stabilized_as (answered v) floor hits = eqb v.floor_hits hits && eq v.floor floor
stabilized_as (refused k) floor hits = false
