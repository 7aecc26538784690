use Rattle.whole_route.specs.ColumnSums.{RowsAdded}
use Rattle.whole_route.proofs.column_sums.add_rows.Given as goal

abbrev pub invariant-loop-q : goal.invariant-loop-q
invariant-loop-q l = RowsAdded l.base l.first l.from l.q l.l l.listed l.scratch l.initial.work l.work
