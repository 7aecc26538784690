use Prim.Native.Nat.{◌≤◌}
use Rattle.closure_route.specs.Column.{sum_column}
use Rattle.closure_route.specs.Upper.{RestsAdded}
use Rattle.closure_route.proofs.UpperLaws.{RowsReached}
use Rattle.closure_route.proofs.stored_sums.add_rests.Given as goal

abbrev pub invariant-loop-q : goal.invariant-loop-q
invariant-loop-q l = (l.s ≤ l.p)
    × (l.p ≤ l.e)
    × RowsReached (sum_column l.n l.j l.first l.last l.s l.e l.rows l.values l.result_rows l.scratch) l.p l.q
    × RestsAdded (sum_column l.n l.j l.first l.last l.s l.e l.rows l.values l.result_rows l.scratch) l.q l.initial.result_values l.result_values
