use mathlib.Core.Path.{◌≡◌}
use lib.Ieee.{nan}
use Rattle.lists.specs.Overwrite.{filled}
use Rattle.pairs.specs.Positions.{inverse_at}
use Rattle.quadratic_form.specs.RowValue.{operator_value}
use Rattle.operator_values.proofs.operator_values.Given as goal

abbrev pub invariant-loop-i : goal.invariant-loop-i
invariant-loop-i l = l.output ≡ filled (operator_value l.row_starts l.columns l.weights (inverse_at nan l.n l.scratch l.result_values)) l.i l.initial.output
