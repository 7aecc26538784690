use Rattle.selection.specs.Selection.{lists}
use Rattle.operator_variances.specs.Transformed.{transformed_call}
use Rattle.operator_variances.proofs.Reply.{too_many}
use Rattle.operator_variances.proofs.selected_inverse_transformed_diag.Goals as goal

pub returns-then-rows-gt-MAX_ENTRIES : goal.returns-then-rows-gt-MAX_ENTRIES
returns-then-rows-gt-MAX_ENTRIES c = let a = c.args in
    too_many (transformed_call a.n a.starts.now a.rows.now a.values.now a.ncols a.row_starts.now a.columns.now a.weights.now)
    (lists a.result_starts.now a.result_rows.now a.result_values.now a.scratch.now) a.output.now c.if-rows-gt-MAX_ENTRIES.true

pub returns : goal.returns
returns c = (rw c.default_limit.ensures at c.selected_inverse_transformed_diag_with_limit.ensures).selected
