use Rattle.std.proofs.Common.{sym, ◌∙◌}
use Rattle.refusal.proofs.Returned.{returned}
use Rattle.refusal.proofs.Steps.{append-refused, append_passed}
use Rattle.whole_entries.proofs.checks.check_whole_factor.Goals as goal

pub returns-in_err-check_bounds : goal.returns-in_err-check_bounds
returns-in_err-check_bounds c = returned _ _ c.from_residual.ensures.1
    (append-refused _ _ _ tt (sym c.in_err-check_bounds.ensures))

pub returns : goal.returns
returns c = c.check_columns.ensures
    ∙ sym
    (append_passed _ _ tt (sym c.in_ok-check_bounds.ensures))
