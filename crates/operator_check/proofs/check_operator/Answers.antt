use borrow.Author.Tests.{eq-eqb, ne_eqb}
use Rattle.columns.specs.Operator.{operator_steps}
use Rattle.refusal.proofs.Returned.{returned}
use Rattle.refusal.proofs.Steps.{first_hit, first_skip, append-refused, append_passed}
use mathlib.Core.Path.{sym, ◌∙◌}
use Rattle.operator_check.proofs.check_operator.Goals as goal

pub returns-then-row_starts-eq0 : goal.returns-then-row_starts-eq0
unfolding operator_steps
returns-then-row_starts-eq0 c = sym (first_hit _ _ _ (eq-eqb _ _ c.if-row_starts-eq0.true))

pub returns-in_err-check_broken : goal.returns-in_err-check_broken
unfolding operator_steps
returns-in_err-check_broken c = returned _ _ c.from_residual.ensures.1 (first_skip _ _ _ (ne_eqb _ _ c.if-row_starts-eq0.false)
    (append-refused _ _ _ tt (sym c.in_err-check_broken.ensures)))

pub returns : goal.returns
unfolding operator_steps
returns c = sym
    (first_skip _ _ _ (ne_eqb _ _ c.if-row_starts-eq0.false)
    (append_passed _ _ tt (sym c.in_ok-check_broken.ensures) ∙ sym c.check_inside.ensures))
