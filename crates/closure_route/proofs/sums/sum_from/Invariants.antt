use Rattle.closure_route.specs.Column.{sum_terms}
use Rattle.closure_route.specs.Sums.{SumContinued}
use Rattle.closure_route.proofs.sums.sum_from.Given as goal

abbrev pub invariant-loop-p : goal.invariant-loop-p
invariant-loop-p l = SumContinued (sum_terms l.n l.j l.first l.p l.rows l.values l.scratch) l.result_values l.i l.start l.sum
