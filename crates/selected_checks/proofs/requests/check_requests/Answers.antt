use mathlib.Core.Path.{sym, ap, ◌∙◌}
use mathlib.Core.Bool.{not}
use borrow.Author.Tests.{eq-eqb, ne_eqb}
use Rattle.refusal.proofs.Steps.{first_hit, first_skip, first_end}
use Rattle.selection.specs.RequestSteps.{request_steps}
use Rattle.selected_checks.proofs.requests.check_requests.Goals as goal

pub returns-then-dimension-n : goal.returns-then-dimension-n
unfolding request_steps
returns-then-dimension-n c = sym (first_hit 4 _ tt (ap not (ne_eqb _ _ c.if-dimension-n.true)))

pub returns-then-request_rows-request_columns : goal.returns-then-request_rows-request_columns
unfolding request_steps
returns-then-request_rows-request_columns c = sym (first_skip 4 _ tt (ap not (eq-eqb _ _ c.if-dimension-n.false)) (first_hit 4 _ tt (ap not (ne_eqb _ _ c.if-request_rows-request_columns.true))))

pub returns-then-index_outside : goal.returns-then-index_outside
unfolding request_steps
returns-then-index_outside c = sym
    (first_skip 4 _ tt (ap not (eq-eqb _ _ c.if-dimension-n.false))
    (first_skip 4 _ tt (ap not (eq-eqb _ _ c.if-request_rows-request_columns.false)) (first_hit 5 _ tt (sym c.index_outside.ensures ∙ c.if-index_outside.true))))

pub returns-then-index_outside-2 : goal.returns-then-index_outside-2
unfolding request_steps
returns-then-index_outside-2 c = sym
    (first_skip 4 _ tt (ap not (eq-eqb _ _ c.if-dimension-n.false))
    (first_skip 4 _ tt (ap not (eq-eqb _ _ c.if-request_rows-request_columns.false))
    (first_skip 5 _ tt (sym c.index_outside.ensures ∙ c.if-index_outside.false) (first_hit 5 _ tt (sym c.index_outside-2.ensures ∙ c.if-index_outside-2.true)))))

pub returns : goal.returns
unfolding request_steps
returns c = sym
    (first_skip 4 _ tt (ap not (eq-eqb _ _ c.if-dimension-n.false))
    (first_skip 4 _ tt (ap not (eq-eqb _ _ c.if-request_rows-request_columns.false))
    (first_skip 5 _ tt (sym c.index_outside.ensures ∙ c.if-index_outside.false)
    (first_skip 5 _ tt (sym c.index_outside-2.ensures ∙ c.if-index_outside-2.false) (first_end tt)))))
