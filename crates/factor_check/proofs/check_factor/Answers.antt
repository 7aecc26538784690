use Rattle.refusal.proofs.Returned.{returned}
use Rattle.columns.specs.Stored.{factor_steps}
use Rattle.refusal.proofs.Steps.{append-refused, append_passed}
use mathlib.Core.Path.{sym, ◌∙◌}
use Rattle.factor_check.proofs.check_factor.Goals as goal

pub returns-in_err-check_bounds : goal.returns-in_err-check_bounds
unfolding factor_steps
returns-in_err-check_bounds c = returned _ _ c.from_residual.ensures.1 (append-refused _ _ _ tt (sym c.in_err-check_bounds.ensures))

pub returns : goal.returns
unfolding factor_steps
returns c = c.check_stored.ensures ∙ sym (append_passed _ _ tt (sym c.in_ok-check_bounds.ensures))
