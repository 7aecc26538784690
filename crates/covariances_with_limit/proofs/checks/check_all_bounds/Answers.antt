use Rattle.std.proofs.Common.{sym, ◌∙◌}
use Rattle.refusal.proofs.Returned.{returned}
use Rattle.refusal.proofs.Steps.{append-refused, append_passed}
use Rattle.covariances_with_limit.proofs.checks.check_all_bounds.Goals as goal

pub returns-in_err-check_bounds : goal.returns-in_err-check_bounds
returns-in_err-check_bounds c = returned _ _ c.from_residual.ensures.1
    (append-refused _ _ _ tt (sym c.in_err-check_bounds.ensures))

pub returns-in_err-check_operator_bounds : goal.returns-in_err-check_operator_bounds
returns-in_err-check_operator_bounds c = returned _ _ c.from_residual-in_err-check_operator_bounds.ensures.1
    (append_passed _ _ tt (sym c.in_ok-check_bounds.ensures)
    ∙ append-refused _ _ _ tt (sym c.in_err-check_operator_bounds.ensures))

pub returns-in_err-check_operator_bounds-2 : goal.returns-in_err-check_operator_bounds-2
returns-in_err-check_operator_bounds-2 c = returned _ _ c.from_residual-in_err-check_operator_bounds-2.ensures.1
    (append_passed _ _ tt (sym c.in_ok-check_bounds.ensures)
    ∙ append_passed _ _ tt (sym c.in_ok-check_operator_bounds.ensures)
    ∙ append-refused _ _ _ tt (sym c.in_err-check_operator_bounds-2.ensures))

pub returns : goal.returns
returns c = c.check_pair_bound.ensures
    ∙ sym
    (append_passed _ _ tt (sym c.in_ok-check_bounds.ensures)
    ∙ append_passed _ _ tt (sym c.in_ok-check_operator_bounds.ensures)
    ∙ append_passed _ _ tt (sym c.in_ok-check_operator_bounds-2.ensures))
