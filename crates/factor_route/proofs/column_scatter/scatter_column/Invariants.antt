use Rattle.factor_route.proofs.ScatterLaws.{InColumn}
use Rattle.factor_route.proofs.column_scatter.scatter_column.Given as goal

abbrev pub invariant-loop-t : goal.invariant-loop-t
invariant-loop-t l = InColumn l.rows l.values l.a l.e l.b l.m l.c l.weights l.initial.sums l.q l.t l.held l.sums
