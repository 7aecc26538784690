use Rattle.whole_route.proofs.RowsLaws.{RowsLeft}
use Rattle.whole_route.proofs.whole_rows.Given as goal

abbrev pub invariant-loop-q : goal.invariant-loop-q
invariant-loop-q l = RowsLeft l.n l.j l.first l.q l.starts l.rows l.values l.scratch l.initial.work l.work
