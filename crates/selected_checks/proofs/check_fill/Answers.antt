use Rattle.std.proofs.Common.{sym, ◌∙◌}
use Rattle.refusal.proofs.Returned.{returned}
use Rattle.refusal.proofs.Steps.{append-refused, append_passed}
use Rattle.selected_checks.proofs.check_fill.Goals as goal

pub check_diagonals-requires : goal.check_diagonals-requires
check_diagonals-requires c = c.requires.1

pub check_room-requires : goal.check_room-requires
check_room-requires c = c.requires.0

pub returns-in_err-check_diagonals : goal.returns-in_err-check_diagonals
returns-in_err-check_diagonals c = returned _ _ c.from_residual.ensures.1
    (append-refused _ _ _ tt (sym c.in_err-check_diagonals.ensures))

pub returns : goal.returns
returns c = c.check_room.ensures
    ∙ sym
    (append_passed _ _ tt (sym c.in_ok-check_diagonals.ensures))
