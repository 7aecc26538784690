use Rattle.factor_route.specs.Walk.{ColumnsAre, Scattered}
use Prim.Native.Nat.{◌≤◌, ◌-◌}
use Rattle.factor_route.proofs.column_scatter.scatter_columns.Given as goal

abbrev pub invariant-loop-c : goal.invariant-loop-c
invariant-loop-c l = (l.c ≤ l.m) × Scattered (ColumnsAre l.starts l.rows l.values l.b l.m) l.rows l.b l.m l.weights 0 l.c l.initial.sums l.sums

abbrev pub decreases-loop-c : goal.decreases-loop-c
decreases-loop-c l = l.m - l.c
