use Rattle.closure_route.specs.Part.{PartSet}
use Rattle.closure_route.specs.Products.{run_terms}
use Rattle.closure_route.proofs.products.add_run.Given as goal

abbrev pub invariant-loop-q : goal.invariant-loop-q
invariant-loop-q l = PartSet l.from l.q (run_terms l.from l.position l.l l.initial.result_values) l.initial.result_values l.result_values
