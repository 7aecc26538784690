use lib.ListN.{length}
use Rattle.columns.proofs.Factor.{bound_steps-sound}
use Rattle.columns.proofs.Stored.{stored_steps-sound}
use Rattle.dependency_chain.specs.Chain.{asked_steps}
use Rattle.std.proofs.Common.{sym, ◌∙◌}
use Rattle.refusal.proofs.Returned.{returned}
use Rattle.refusal.proofs.Steps.{append-refused, append_passed}
use Rattle.dependency_chain.proofs.check_asked.Goals as goal

pub check_diagonals-requires : goal.check_diagonals-requires
check_diagonals-requires c = stored_steps-sound _ (sym c.in_ok-check_stored.ensures)

pub check_seek-requires : goal.check_seek-requires
check_seek-requires c = (bound_steps-sound c.args.n (length c.args.rows.now) (sym c.in_ok-check_bounds.ensures)).small

pub returns-in_err-check_bounds : goal.returns-in_err-check_bounds
unfolding asked_steps
returns-in_err-check_bounds c = returned _ _ c.from_residual.ensures.1
    (append-refused _ _ _ tt (append-refused _ _ _ tt (sym c.in_err-check_bounds.ensures)))

pub returns-in_err-check_request_bound : goal.returns-in_err-check_request_bound
unfolding asked_steps
returns-in_err-check_request_bound c = returned _ _ c.from_residual-in_err-check_request_bound.ensures.1
    (append-refused _ _ _ tt (append_passed _ _ tt (sym c.in_ok-check_bounds.ensures) ∙ sym c.in_err-check_request_bound.ensures))

pub returns-in_err-check_stored : goal.returns-in_err-check_stored
unfolding asked_steps
returns-in_err-check_stored c = returned _ _ c.from_residual-in_err-check_stored.ensures.1
    (append_passed _ _ tt (append_passed _ _ tt (sym c.in_ok-check_bounds.ensures) ∙ sym c.in_ok-check_request_bound.ensures)
    ∙ append-refused _ _ _ tt (sym c.in_err-check_stored.ensures))

pub returns-in_err-check_requests : goal.returns-in_err-check_requests
unfolding asked_steps
returns-in_err-check_requests c = returned _ _ c.from_residual-in_err-check_requests.ensures.1
    (append_passed _ _ tt (append_passed _ _ tt (sym c.in_ok-check_bounds.ensures) ∙ sym c.in_ok-check_request_bound.ensures)
    ∙ append_passed _ _ tt (sym c.in_ok-check_stored.ensures)
    ∙ append-refused _ _ _ tt (sym c.in_err-check_requests.ensures))

pub returns-in_err-check_diagonals : goal.returns-in_err-check_diagonals
unfolding asked_steps
returns-in_err-check_diagonals c = returned _ _ c.from_residual-in_err-check_diagonals.ensures.1
    (append_passed _ _ tt (append_passed _ _ tt (sym c.in_ok-check_bounds.ensures) ∙ sym c.in_ok-check_request_bound.ensures)
    ∙ append_passed _ _ tt (sym c.in_ok-check_stored.ensures)
    ∙ append_passed _ _ tt (sym c.in_ok-check_requests.ensures)
    ∙ append-refused _ _ _ tt (sym c.in_err-check_diagonals.ensures))

pub returns : goal.returns
unfolding asked_steps
returns c = c.check_seek.ensures
    ∙ sym
    (append_passed _ _ tt (append_passed _ _ tt (sym c.in_ok-check_bounds.ensures) ∙ sym c.in_ok-check_request_bound.ensures)
    ∙ append_passed _ _ tt (sym c.in_ok-check_stored.ensures)
    ∙ append_passed _ _ tt (sym c.in_ok-check_requests.ensures)
    ∙ append_passed _ _ tt (sym c.in_ok-check_diagonals.ensures))
