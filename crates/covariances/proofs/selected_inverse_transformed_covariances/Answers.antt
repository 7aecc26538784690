use Rattle.selection.specs.Selection.{lists}
use Rattle.covariances.specs.Covariances.{operator, covariance_call}
use Rattle.covariances.proofs.Reply.{too_many}
use Rattle.covariances.proofs.selected_inverse_transformed_covariances.Goals as goal

pub returns-then-rows-gt-MAX_ENTRIES : goal.returns-then-rows-gt-MAX_ENTRIES
returns-then-rows-gt-MAX_ENTRIES c = let a = c.args in
    too_many
    (covariance_call a.n a.starts.now a.rows.now a.values.now
    (operator a.a_ncols a.a_row_starts.now a.a_columns.now a.a_weights.now)
    (operator a.b_ncols a.b_row_starts.now a.b_columns.now a.b_weights.now)
    a.a_rows.now a.b_rows.now)
    (lists a.result_starts.now a.result_rows.now a.result_values.now a.scratch.now) a.output.now c.if-rows-gt-MAX_ENTRIES.true

pub returns : goal.returns
returns c = (rw c.default_limit.ensures at c.selected_inverse_transformed_covariances_with_limit.ensures).selected
