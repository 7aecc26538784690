use Rattle.refusal.proofs.Returned.{returned}
use Rattle.columns.proofs.Factor.{column_steps-sound}
use Rattle.columns.specs.Stored.{stored_steps}
use Rattle.refusal.proofs.Steps.{append-refused, append_passed}
use mathlib.Core.Path.{sym, ◌∙◌}
use Rattle.factor_check.proofs.check_stored.Goals as goal

pub check_finite-requires : goal.check_finite-requires
check_finite-requires c = column_steps-sound _ _ _ _ (sym c.in_ok-check_columns.ensures)

pub returns-in_err-check_columns : goal.returns-in_err-check_columns
unfolding stored_steps
returns-in_err-check_columns c = returned _ _ c.from_residual.ensures.1 (append-refused _ _ _ tt (sym c.in_err-check_columns.ensures))

pub returns : goal.returns
unfolding stored_steps
returns c = c.check_finite.ensures ∙ sym (append_passed _ _ tt (sym c.in_ok-check_columns.ensures))
