-- The answer, from the floor and the hits.
-- Assumes nothing.
use Prim.Native.Nat.{ℕ}
use mathlib.Core.Path.{◌≡◌}
use mathlib.Core.List.{List}
use lib.Ieee.{Float}
use Rattle.floor.specs.Floored.{floor_hits}
use Rattle.floor.specs.declared.variance_floor.VarianceFloor.{VarianceFloor}
use Rattle.floor.specs.VarianceFloor.{floor_of}
use Rattle.floor.specs.Floor.{stabilized_of}

-- the floor and the hits, as the call answers them
pub stabilized_is : (how : VarianceFloor) (values : List Float) {f : Float} {h : ℕ} → f ≡ floor_of how values → h ≡ floor_hits f values
    → record { floor = f; floor_hits = h } ≡ stabilized_of how values
stabilized_is how values p q = rw (q, p)
