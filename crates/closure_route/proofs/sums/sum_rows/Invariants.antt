use Rattle.closure_route.specs.Run.{row_positions}
use Rattle.closure_route.specs.Rest.{ProductsSummed}
use Rattle.closure_route.proofs.sums.sum_rows.Given as goal

abbrev pub invariant-loop-p : goal.invariant-loop-p
invariant-loop-p l = ProductsSummed l.values l.result_values l.first l.p (row_positions l.base l.rows l.scratch) l.start l.sum
