use Prim.Native.Nat.{◌≤◌}
use Rattle.whole_route.specs.ColumnSums.{column_sums, HighsAdded}
use Rattle.whole_route.proofs.ColumnSumLaws.{RowsUpTo}
use Rattle.whole_route.proofs.column_sums.add_highs.Given as goal

abbrev pub invariant-loop-q : goal.invariant-loop-q
invariant-loop-q l = (l.s ≤ l.f)
    × (l.f ≤ l.e)
    × RowsUpTo (column_sums l.n l.j l.first l.count l.s l.e l.listed l.rows l.values l.scratch) l.f l.q
    × HighsAdded (column_sums l.n l.j l.first l.count l.s l.e l.listed l.rows l.values l.scratch) l.q l.initial.work l.work
