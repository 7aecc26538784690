-- What a column's marks, weights and sums hold, and that the marker is empty again after it. Assumes nothing.
use Rattle.std.specs.Prelude.{replicate}
use mathlib.Core.List.{List}
use Prim.Native.Nat.{ℕ}
use Rattle.refusal.specs.Bounds.{max_dimension}

-- the marker at rest: shut, so that no goal writes its places out
unfoldable pub empties : List ℕ
empties = replicate max_dimension max_dimension
