use Rattle.pairs.specs.ColumnOrder.{column_marking}
use Rattle.columns.specs.Form.{form_of}
use Rattle.entries.specs.Entries.{form_table}
use Rattle.closure_route.specs.Route.{ColumnsSolved}
use Rattle.closure_route.proofs.takahashi_selected_inverse_on_closure.Given as goal

abbrev pub invariant-loop-j : goal.invariant-loop-j
invariant-loop-j l = ColumnsSolved l.n (column_marking l.n l.scratch) (form_table (form_of l.pivots) l.n l.starts l.rows l.values) l.j l.initial.result_values l.result_values
