use Rattle.std.proofs.Common.{sym, ◌∙◌}
use Rattle.refusal.proofs.Returned.{returned}
use Rattle.refusal.proofs.Steps.{append-refused, append_passed}
use Rattle.ldl_entries.proofs.checks.check_ldl_fill.Goals as goal

pub returns-in_err-check_pivot_diagonals : goal.returns-in_err-check_pivot_diagonals
returns-in_err-check_pivot_diagonals c = returned _ _ c.from_residual.ensures.1
    (append-refused _ _ _ tt (sym c.in_err-check_pivot_diagonals.ensures))

pub returns-in_err-check_pivots : goal.returns-in_err-check_pivots
returns-in_err-check_pivots c = returned _ _ c.from_residual-in_err-check_pivots.ensures.1
    (append_passed _ _ tt (sym c.in_ok-check_pivot_diagonals.ensures)
    ∙ append-refused _ _ _ tt (sym c.in_err-check_pivots.ensures))

pub returns : goal.returns
returns c = c.check_room.ensures
    ∙ sym
    (append_passed _ _ tt (sym c.in_ok-check_pivot_diagonals.ensures)
    ∙ append_passed _ _ tt (sym c.in_ok-check_pivots.ensures))
