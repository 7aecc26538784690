use mathlib.Core.Path.{sym, ap, ◌∙◌}
use mathlib.Core.Bool.{not}
use borrow.Author.Tests.{eq-eqb, ne_eqb}
use Rattle.refusal.proofs.Steps.{first_hit, first_skip, first_end}
use Rattle.columns.specs.Pivots.{pivot_list_steps}
use Rattle.ldl_entries.proofs.checks.check_pivot_list.Goals as goal

pub returns-then-pivots-n : goal.returns-then-pivots-n
unfolding pivot_list_steps
returns-then-pivots-n c = sym (first_hit 4 _ tt (ap not (ne_eqb _ _ c.if-pivots-n.true)))

pub returns-then-any_not_finite : goal.returns-then-any_not_finite
unfolding pivot_list_steps
returns-then-any_not_finite c = sym (first_skip 4 _ tt (ap not (eq-eqb _ _ c.if-pivots-n.false)) (first_hit 18 _ tt (sym c.any_not_finite.ensures ∙ c.if-any_not_finite.true)))

pub returns : goal.returns
unfolding pivot_list_steps
returns c = sym
    (first_skip 4 _ tt (ap not (eq-eqb _ _ c.if-pivots-n.false))
    (first_skip 18 _ tt (sym c.any_not_finite.ensures ∙ c.if-any_not_finite.false) (first_end tt)))
