use Prim.Native.Nat.{◌≤◌}
use Rattle.whole_route.specs.ColumnSums.{column_sums, LowAdded}
use Rattle.whole_route.proofs.ColumnSumLaws.{RowsBefore}
use Rattle.whole_route.proofs.column_sums.add_lows.Given as goal

abbrev pub invariant-loop-p : goal.invariant-loop-p
invariant-loop-p l = (l.q ≤ l.count)
    × RowsBefore (column_sums l.n l.j l.first l.count l.s l.e l.listed l.rows l.values l.scratch) l.q l.p
    × LowAdded (column_sums l.n l.j l.first l.count l.s l.e l.listed l.rows l.values l.scratch) l.p l.initial.work l.work
