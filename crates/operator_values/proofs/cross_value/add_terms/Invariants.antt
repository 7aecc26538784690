use mathlib.Core.Path.{◌≡◌}
use lib.Ieee.{nan}
use Rattle.pairs.specs.Positions.{inverse_at}
use Rattle.columns.specs.Columns.{value}
use Rattle.exact.specs.Exact.{floats}
use Rattle.quadratic_form.specs.CrossValue.{with_terms}
use Rattle.quadratic_form.specs.RowValue.{term_column}
use Rattle.operator_values.proofs.cross_value.add_terms.Given as goal

abbrev pub invariant-loop-b : goal.invariant-loop-b
invariant-loop-b l = l.sum ≡ with_terms floats (term_column l.a_columns) (term_column l.b_columns) (value l.a_weights) (value l.b_weights) (inverse_at nan l.n l.scratch l.result_values) l.t l.b l.a l.first
