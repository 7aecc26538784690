use Rattle.refusal.proofs.Returned.{returned}
use Rattle.columns.proofs.Factor.{starts_steps-sound}
use Rattle.columns.specs.Columns.{column_steps}
use Rattle.refusal.proofs.Steps.{append-refused, append_passed}
use mathlib.Core.Path.{sym, ◌∙◌}
use Rattle.factor_check.proofs.check_columns.Goals as goal

pub check_rows-requires : goal.check_rows-requires
check_rows-requires c = starts_steps-sound _ _ _ _ (sym c.in_ok-check_starts.ensures)

pub returns-in_err-check_starts : goal.returns-in_err-check_starts
unfolding column_steps
returns-in_err-check_starts c = returned _ _ c.from_residual.ensures.1 (append-refused _ _ _ tt (sym c.in_err-check_starts.ensures))

pub returns : goal.returns
unfolding column_steps
returns c = c.check_rows.ensures ∙ sym (append_passed _ _ tt (sym c.in_ok-check_starts.ensures))
