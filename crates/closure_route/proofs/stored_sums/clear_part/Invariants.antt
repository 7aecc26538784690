use Rattle.closure_route.specs.Part.{PartSet, zeros}
use Rattle.closure_route.proofs.stored_sums.clear_part.Given as goal

abbrev pub invariant-loop-q : goal.invariant-loop-q
invariant-loop-q l = PartSet l.first l.q zeros l.initial.result_values l.result_values
