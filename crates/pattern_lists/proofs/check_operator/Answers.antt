use mathlib.Core.Path.{sym, ◌∙◌}
use borrow.Author.Tests.{lt-ltb, le-ltb}
use Rattle.refusal.proofs.Returned.{returned}
use Rattle.refusal.proofs.Steps.{first_hit, first_skip, append-refused, append_passed}
use Rattle.columns.specs.Operator.{operator_bound_steps, operator_steps}
use Rattle.pattern_lists.specs.PatternCalls.{operator_checks}
use Rattle.pattern_lists.proofs.check_operator.Goals as goal

pub returns-then-ncols-gt-MAX_DIMENSION : goal.returns-then-ncols-gt-MAX_DIMENSION
unfolding operator_checks
returns-then-ncols-gt-MAX_DIMENSION c = sym (first_hit 1 _ tt (lt-ltb _ _ c.if-ncols-gt-MAX_DIMENSION.true))

pub returns-in_err-check_operator_bounds : goal.returns-in_err-check_operator_bounds
unfolding operator_checks
returns-in_err-check_operator_bounds c = let a = c.args in
    returned _ _ c.from_residual.ensures.1
    (first_skip 1 _ tt (le-ltb _ _ c.if-ncols-gt-MAX_DIMENSION.false)
    (append-refused (operator_bound_steps a.row_starts.now a.columns.now) (operator_steps a.ncols a.row_starts.now a.columns.now a.weights) _ tt
    (sym c.in_err-check_operator_bounds.ensures)))

pub returns : goal.returns
unfolding operator_checks
returns c = let a = c.args in
    c.check_operator.ensures
    ∙ sym
    (first_skip 1 _ tt (le-ltb _ _ c.if-ncols-gt-MAX_DIMENSION.false)
    (append_passed (operator_bound_steps a.row_starts.now a.columns.now) (operator_steps a.ncols a.row_starts.now a.columns.now a.weights) tt
    (sym c.in_ok-check_operator_bounds.ensures)))
