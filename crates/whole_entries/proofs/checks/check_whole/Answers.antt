use lib.ListN.{length}
use Rattle.columns.proofs.Factor.{bound_steps-sound}
use Rattle.columns.proofs.Factor.{column_steps-sound}
use Rattle.whole_selection.specs.Call.{check_steps}
use Rattle.std.proofs.Common.{sym, ◌∙◌}
use Rattle.refusal.proofs.Returned.{returned}
use Rattle.refusal.proofs.Steps.{append-refused, append_passed}
use Rattle.whole_entries.proofs.checks.check_whole.Goals as goal

pub check_lent-requires : goal.check_lent-requires
check_lent-requires c = ((bound_steps-sound c.args.n (length c.args.rows.now) (sym c.in_ok-check_bounds.ensures)).small, column_steps-sound _ _ _ _ (sym c.in_ok-check_columns.ensures))

pub returns-in_err-check_bounds : goal.returns-in_err-check_bounds
unfolding check_steps
returns-in_err-check_bounds c = returned _ _ c.from_residual.ensures.1
    (append-refused _ _ _ tt (append-refused _ _ _ tt (sym c.in_err-check_bounds.ensures)))

pub returns-in_err-check_request_bound : goal.returns-in_err-check_request_bound
unfolding check_steps
returns-in_err-check_request_bound c = returned _ _ c.from_residual-in_err-check_request_bound.ensures.1
    (append-refused _ _ _ tt (append_passed _ _ tt (sym c.in_ok-check_bounds.ensures) ∙ sym c.in_err-check_request_bound.ensures))

pub returns-in_err-check_columns : goal.returns-in_err-check_columns
unfolding check_steps
returns-in_err-check_columns c = returned _ _ c.from_residual-in_err-check_columns.ensures.1
    (append_passed _ _ tt (append_passed _ _ tt (sym c.in_ok-check_bounds.ensures) ∙ sym c.in_ok-check_request_bound.ensures)
    ∙ append-refused _ _ _ tt (sym c.in_err-check_columns.ensures))

pub returns-in_err-check_requests : goal.returns-in_err-check_requests
unfolding check_steps
returns-in_err-check_requests c = returned _ _ c.from_residual-in_err-check_requests.ensures.1
    (append_passed _ _ tt (append_passed _ _ tt (sym c.in_ok-check_bounds.ensures) ∙ sym c.in_ok-check_request_bound.ensures)
    ∙ append_passed _ _ tt (sym c.in_ok-check_columns.ensures)
    ∙ append-refused _ _ _ tt (sym c.in_err-check_requests.ensures))

pub returns : goal.returns
unfolding check_steps
returns c = c.check_lent.ensures
    ∙ sym
    (append_passed _ _ tt (append_passed _ _ tt (sym c.in_ok-check_bounds.ensures) ∙ sym c.in_ok-check_request_bound.ensures)
    ∙ append_passed _ _ tt (sym c.in_ok-check_columns.ensures)
    ∙ append_passed _ _ tt (sym c.in_ok-check_requests.ensures))
