use Rattle.columns.proofs.Stored.{factor_steps_bounded, factor_steps-sound}
use Rattle.original_diagonal_with_limit.specs.Original.{original_steps}
use Rattle.std.proofs.Common.{sym, ◌∙◌}
use Rattle.refusal.proofs.Returned.{returned}
use Rattle.refusal.proofs.Steps.{append-refused, append_passed}
use Rattle.original_diagonal_with_limit.proofs.check_original.Goals as goal

pub check_order-requires : goal.check_order-requires
check_order-requires c = (factor_steps_bounded _ (sym c.in_ok-check_factor.ensures)).small

pub check_fill-requires : goal.check_fill-requires
check_fill-requires c = let p = sym c.in_ok-check_factor.ensures in ((factor_steps_bounded _ p).small, factor_steps-sound _ p)

pub returns-in_err-check_factor : goal.returns-in_err-check_factor
unfolding original_steps
returns-in_err-check_factor c = returned _ _ c.from_residual.ensures.1
    (append-refused _ _ _ tt (sym c.in_err-check_factor.ensures))

pub returns-in_err-check_order : goal.returns-in_err-check_order
unfolding original_steps
returns-in_err-check_order c = returned _ _ c.from_residual-in_err-check_order.ensures.1
    (append_passed _ _ tt (sym c.in_ok-check_factor.ensures)
    ∙ append-refused _ _ _ tt (sym c.in_err-check_order.ensures))

pub returns-in_err-check_fill : goal.returns-in_err-check_fill
unfolding original_steps
returns-in_err-check_fill c = returned _ _ c.from_residual-in_err-check_fill.ensures.1
    (append_passed _ _ tt (sym c.in_ok-check_factor.ensures)
    ∙ append_passed _ _ tt (sym c.in_ok-check_order.ensures)
    ∙ append-refused _ _ _ tt (sym c.in_err-check_fill.ensures))

pub returns : goal.returns
unfolding original_steps
returns c = c.check_output.ensures
    ∙ sym
    (append_passed _ _ tt (sym c.in_ok-check_factor.ensures)
    ∙ append_passed _ _ tt (sym c.in_ok-check_order.ensures)
    ∙ append_passed _ _ tt (sym c.in_ok-check_fill.ensures))
