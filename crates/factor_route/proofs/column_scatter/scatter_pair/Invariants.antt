use Rattle.factor_route.proofs.ScatterLaws.{InPair}
use Rattle.factor_route.proofs.column_scatter.scatter_pair.Given as goal

abbrev pub invariant-loop-t : goal.invariant-loop-t
invariant-loop-t l = InPair l.rows l.values l.a l.e l.shift l.b l.m l.c l.weights l.initial.sums l.q l.t l.held l.next l.sums
