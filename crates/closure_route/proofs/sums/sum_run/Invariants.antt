use Rattle.closure_route.specs.Rest.{ProductsSummed, run_positions}
use Rattle.closure_route.proofs.sums.sum_run.Given as goal

abbrev pub invariant-loop-p : goal.invariant-loop-p
invariant-loop-p l = ProductsSummed l.values l.result_values l.first l.p (run_positions l.first l.position) l.start l.sum
