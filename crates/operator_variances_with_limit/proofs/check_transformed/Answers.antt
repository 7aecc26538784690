use lib.ListN.{length}
use Rattle.columns.proofs.Factor.{bound_steps-sound}
use Rattle.columns.proofs.Stored.{stored_steps-sound}
use Rattle.operator_variances_with_limit.specs.Transformed.{transformed_steps}
use Rattle.std.proofs.Common.{sym, ◌∙◌}
use Rattle.refusal.proofs.Returned.{returned}
use Rattle.refusal.proofs.Steps.{append-refused, append_passed}
use Rattle.operator_variances_with_limit.proofs.check_transformed.Goals as goal

pub check_fill-requires : goal.check_fill-requires
check_fill-requires c = ((bound_steps-sound c.args.n (length c.args.rows.now) (sym c.in_ok-check_bounds.ensures)).small, stored_steps-sound _ (sym c.in_ok-check_stored.ensures))

pub returns-in_err-check_bounds : goal.returns-in_err-check_bounds
unfolding transformed_steps
returns-in_err-check_bounds c = returned _ _ c.from_residual.ensures.1
    (append-refused _ _ _ tt (append-refused _ _ _ tt (sym c.in_err-check_bounds.ensures)))

pub returns-in_err-check_operator_bounds : goal.returns-in_err-check_operator_bounds
unfolding transformed_steps
returns-in_err-check_operator_bounds c = returned _ _ c.from_residual-in_err-check_operator_bounds.ensures.1
    (append-refused _ _ _ tt (append_passed _ _ tt (sym c.in_ok-check_bounds.ensures) ∙ sym c.in_err-check_operator_bounds.ensures))

pub returns-in_err-check_stored : goal.returns-in_err-check_stored
unfolding transformed_steps
returns-in_err-check_stored c = returned _ _ c.from_residual-in_err-check_stored.ensures.1
    (append_passed _ _ tt (append_passed _ _ tt (sym c.in_ok-check_bounds.ensures) ∙ sym c.in_ok-check_operator_bounds.ensures)
    ∙ append-refused _ _ _ tt (sym c.in_err-check_stored.ensures))

pub returns-in_err-check_column_count : goal.returns-in_err-check_column_count
unfolding transformed_steps
returns-in_err-check_column_count c = returned _ _ c.from_residual-in_err-check_column_count.ensures.1
    (append_passed _ _ tt (append_passed _ _ tt (sym c.in_ok-check_bounds.ensures) ∙ sym c.in_ok-check_operator_bounds.ensures)
    ∙ append_passed _ _ tt (sym c.in_ok-check_stored.ensures)
    ∙ append-refused _ _ _ tt (sym c.in_err-check_column_count.ensures))

pub returns-in_err-check_operator : goal.returns-in_err-check_operator
unfolding transformed_steps
returns-in_err-check_operator c = returned _ _ c.from_residual-in_err-check_operator.ensures.1
    (append_passed _ _ tt (append_passed _ _ tt (sym c.in_ok-check_bounds.ensures) ∙ sym c.in_ok-check_operator_bounds.ensures)
    ∙ append_passed _ _ tt (sym c.in_ok-check_stored.ensures)
    ∙ append_passed _ _ tt (sym c.in_ok-check_column_count.ensures)
    ∙ append-refused _ _ _ tt (sym c.in_err-check_operator.ensures))

pub returns-in_err-check_fill : goal.returns-in_err-check_fill
unfolding transformed_steps
returns-in_err-check_fill c = returned _ _ c.from_residual-in_err-check_fill.ensures.1
    (append_passed _ _ tt (append_passed _ _ tt (sym c.in_ok-check_bounds.ensures) ∙ sym c.in_ok-check_operator_bounds.ensures)
    ∙ append_passed _ _ tt (sym c.in_ok-check_stored.ensures)
    ∙ append_passed _ _ tt (sym c.in_ok-check_column_count.ensures)
    ∙ append_passed _ _ tt (sym c.in_ok-check_operator.ensures)
    ∙ append-refused _ _ _ tt (sym c.in_err-check_fill.ensures))

pub returns : goal.returns
unfolding transformed_steps
returns c = (rw c.operator_rows.ensures at c.check_output.ensures)
    ∙ sym
    (append_passed _ _ tt (append_passed _ _ tt (sym c.in_ok-check_bounds.ensures) ∙ sym c.in_ok-check_operator_bounds.ensures)
    ∙ append_passed _ _ tt (sym c.in_ok-check_stored.ensures)
    ∙ append_passed _ _ tt (sym c.in_ok-check_column_count.ensures)
    ∙ append_passed _ _ tt (sym c.in_ok-check_operator.ensures)
    ∙ append_passed _ _ tt (sym c.in_ok-check_fill.ensures))
