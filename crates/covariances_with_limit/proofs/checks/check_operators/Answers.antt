use Rattle.std.proofs.Common.{sym, ◌∙◌}
use Rattle.refusal.proofs.Returned.{returned}
use Rattle.refusal.proofs.Steps.{append-refused, append_passed}
use Rattle.covariances_with_limit.proofs.checks.check_operators.Goals as goal

pub returns-in_err-check_operator : goal.returns-in_err-check_operator
returns-in_err-check_operator c = returned _ _ c.from_residual.ensures.1
    (append-refused _ _ _ tt (sym c.in_err-check_operator.ensures))

pub returns-in_err-check_operator-2 : goal.returns-in_err-check_operator-2
returns-in_err-check_operator-2 c = returned _ _ c.from_residual-in_err-check_operator-2.ensures.1
    (append_passed _ _ tt (sym c.in_ok-check_operator.ensures)
    ∙ append-refused _ _ _ tt (sym c.in_err-check_operator-2.ensures))

pub returns : goal.returns
returns c = (rw (c.operator_rows.ensures, c.operator_rows-2.ensures) at c.check_rows.ensures)
    ∙ sym
    (append_passed _ _ tt (sym c.in_ok-check_operator.ensures)
    ∙ append_passed _ _ tt (sym c.in_ok-check_operator-2.ensures))
