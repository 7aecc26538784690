use Rattle.closure.specs.Covered.{Covered}
use Prim.Native.Nat.{◌≤◌}
use Rattle.closure.proofs.stops.covered_apart.Given as goal

abbrev pub invariant-loop-i : goal.invariant-loop-i
invariant-loop-i g l = (l.s ≤ l.j) × (l.j ≤ l.e) × Covered l.rows (g.T.StoredValue.kept l.values) l.a l.i l.s l.e
