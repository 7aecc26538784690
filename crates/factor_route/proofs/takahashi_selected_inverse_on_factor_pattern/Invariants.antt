use Rattle.columns.specs.Form.{form_of}
use Rattle.factor_route.specs.Route.{WorkRows}
use Rattle.factor_route.proofs.RouteLaws.{Done}
use Rattle.factor_route.proofs.takahashi_selected_inverse_on_factor_pattern.Given as goal

abbrev pub invariant-loop-j : goal.invariant-loop-j
invariant-loop-j l = WorkRows l.marker l.weights l.sums × Done (form_of l.pivots) l.n l.starts l.rows l.values l.result_starts l.result_rows l.initial.result_values l.j l.result_values
