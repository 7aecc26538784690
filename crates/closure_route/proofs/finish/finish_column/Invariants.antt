use lib.ListN.{get_or}
use lib.Ieee.{nan}
use Rattle.exact.specs.PivotCase.{step_below}
use Rattle.last_steps.specs.DivisorParts.{is_pivot, number}
use Rattle.closure_route.specs.Part.{PartSet}
use Rattle.closure_route.proofs.finish.finish_column.Given as goal

abbrev pub invariant-loop-q : goal.invariant-loop-q
invariant-loop-q l = PartSet l.first l.q (λ p. step_below (is_pivot l.divisor) (number l.divisor) (get_or l.initial.part p nan)) l.initial.part l.part
