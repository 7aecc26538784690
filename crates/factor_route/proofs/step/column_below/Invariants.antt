use lib.Ieee.{nan}
use Rattle.scatter.specs.Scatter.{steps, step_sum}
use Rattle.exact.specs.Exact.{floats}
use Rattle.exact.specs.PivotCase.{step_below, step_on}
use Rattle.last_steps.specs.DivisorParts.{is_pivot, number}
use mathlib.Core.Path.{◌≡◌}
use Rattle.factor_route.proofs.step.column_below.Given as goal

abbrev pub invariant-loop-p : goal.invariant-loop-p
invariant-loop-p l = (l.sum ≡ step_sum floats (step_below (is_pivot l.divisor)) (step_on (is_pivot l.divisor)) nan (number l.divisor) l.weights l.sums l.p) × (l.part ≡ steps floats (step_below (is_pivot l.divisor)) (step_on (is_pivot l.divisor)) nan (number l.divisor) l.sums l.initial.part l.p)
