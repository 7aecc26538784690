use lib.ListN.{length}
use Rattle.columns.proofs.Factor.{bound_steps-sound}
use Rattle.columns.proofs.Stored.{stored_steps-sound}
use Rattle.refusal.proofs.Steps.{passed_front}
use Rattle.covariances_with_limit.specs.Covariances.{covariance_steps}
use Rattle.std.proofs.Common.{sym, ◌∙◌}
use Rattle.refusal.proofs.Returned.{returned}
use Rattle.refusal.proofs.Steps.{append-refused, append_passed}
use Rattle.covariances_with_limit.proofs.checks.check_covariances.Goals as goal

pub check_fill-requires : goal.check_fill-requires
check_fill-requires c =
    ((bound_steps-sound c.args.n (length c.args.rows.now) (passed_front _ _ (sym c.in_ok-check_all_bounds.ensures))).small, stored_steps-sound _ (sym c.in_ok-check_stored.ensures))

pub returns-in_err-check_all_bounds : goal.returns-in_err-check_all_bounds
unfolding covariance_steps
returns-in_err-check_all_bounds c = returned _ _ c.from_residual.ensures.1
    (append-refused _ _ _ tt (sym c.in_err-check_all_bounds.ensures))

pub returns-in_err-check_stored : goal.returns-in_err-check_stored
unfolding covariance_steps
returns-in_err-check_stored c = returned _ _ c.from_residual-in_err-check_stored.ensures.1
    (append_passed _ _ tt (sym c.in_ok-check_all_bounds.ensures)
    ∙ append-refused _ _ _ tt (sym c.in_err-check_stored.ensures))

pub returns-in_err-check_counts : goal.returns-in_err-check_counts
unfolding covariance_steps
returns-in_err-check_counts c = returned _ _ c.from_residual-in_err-check_counts.ensures.1
    (append_passed _ _ tt (sym c.in_ok-check_all_bounds.ensures)
    ∙ append_passed _ _ tt (sym c.in_ok-check_stored.ensures)
    ∙ append-refused _ _ _ tt (sym c.in_err-check_counts.ensures))

pub returns-in_err-check_operators : goal.returns-in_err-check_operators
unfolding covariance_steps
returns-in_err-check_operators c = returned _ _ c.from_residual-in_err-check_operators.ensures.1
    (append_passed _ _ tt (sym c.in_ok-check_all_bounds.ensures)
    ∙ append_passed _ _ tt (sym c.in_ok-check_stored.ensures)
    ∙ append_passed _ _ tt (sym c.in_ok-check_counts.ensures)
    ∙ append-refused _ _ _ tt (sym c.in_err-check_operators.ensures))

pub returns-in_err-check_fill : goal.returns-in_err-check_fill
unfolding covariance_steps
returns-in_err-check_fill c = returned _ _ c.from_residual-in_err-check_fill.ensures.1
    (append_passed _ _ tt (sym c.in_ok-check_all_bounds.ensures)
    ∙ append_passed _ _ tt (sym c.in_ok-check_stored.ensures)
    ∙ append_passed _ _ tt (sym c.in_ok-check_counts.ensures)
    ∙ append_passed _ _ tt (sym c.in_ok-check_operators.ensures)
    ∙ append-refused _ _ _ tt (sym c.in_err-check_fill.ensures))

pub returns : goal.returns
unfolding covariance_steps
returns c = c.check_output.ensures
    ∙ sym
    (append_passed _ _ tt (sym c.in_ok-check_all_bounds.ensures)
    ∙ append_passed _ _ tt (sym c.in_ok-check_stored.ensures)
    ∙ append_passed _ _ tt (sym c.in_ok-check_counts.ensures)
    ∙ append_passed _ _ tt (sym c.in_ok-check_operators.ensures)
    ∙ append_passed _ _ tt (sym c.in_ok-check_fill.ensures))
