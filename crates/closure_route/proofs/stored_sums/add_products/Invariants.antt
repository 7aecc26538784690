use Prim.Native.Nat.{◌≤◌}
use Rattle.closure_route.specs.Column.{sum_column}
use Rattle.closure_route.specs.Lower.{ProductsAdded}
use Rattle.closure_route.proofs.LowerLaws.{RowsBefore}
use Rattle.closure_route.proofs.stored_sums.add_products.Given as goal

abbrev pub invariant-loop-p : goal.invariant-loop-p
invariant-loop-p l = (l.first ≤ l.q)
    × (l.q ≤ l.last)
    × RowsBefore (sum_column l.n l.j l.first l.last l.s l.e l.rows l.values l.result_rows l.scratch) l.q l.p
    × ProductsAdded (sum_column l.n l.j l.first l.last l.s l.e l.rows l.values l.result_rows l.scratch) l.p l.initial.result_values l.result_values
