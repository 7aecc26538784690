use Rattle.whole_route.specs.ColumnSums.{PartCleared}
use Rattle.whole_route.proofs.column_sums.clear_part.Given as goal

abbrev pub invariant-loop-q : goal.invariant-loop-q
invariant-loop-q l = PartCleared l.first l.q l.initial.work l.work
