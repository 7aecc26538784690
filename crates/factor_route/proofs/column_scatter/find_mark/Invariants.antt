use Rattle.factor_route.specs.Walk.{MarkAhead}
use Prim.Native.Nat.{◌≤◌, ◌-◌}
use Rattle.factor_route.proofs.column_scatter.find_mark.Given as goal

abbrev pub invariant-loop-p : goal.invariant-loop-p
invariant-loop-p l = (l.q ≤ l.p) × MarkAhead l.rows l.marker l.p l.e l.t

abbrev pub decreases-loop-p : goal.decreases-loop-p
decreases-loop-p l = l.e - l.p
