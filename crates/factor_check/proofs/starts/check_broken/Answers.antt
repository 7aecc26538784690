use borrow.Author.Tests.{eq-eqb, ne_eqb}
use Rattle.columns.specs.Columns.{broken_steps}
use Rattle.refusal.proofs.Steps.{first_hit, first_skip, first_end}
use mathlib.Core.Bool.{not}
use mathlib.Core.Path.{ap, sym, ◌∙◌}
use Rattle.factor_check.proofs.starts.check_broken.Goals as goal

pub returns-then-starts-ne0 : goal.returns-then-starts-ne0
unfolding broken_steps
returns-then-starts-ne0 c = sym (first_hit _ _ _ (ap not (ne_eqb _ _ c.if-starts-ne0.true)))

pub returns-then-start_falls : goal.returns-then-start_falls
unfolding broken_steps
returns-then-start_falls c = sym
    (first_skip _ _ _ (ap not (eq-eqb _ _ c.if-starts-ne0.false))
    (first_hit _ _ _ (sym c.start_falls.ensures ∙ c.if-start_falls.true)))

pub returns-then-at-indices : goal.returns-then-at-indices
unfolding broken_steps
returns-then-at-indices c = sym
    (first_skip _ _ _ (ap not (eq-eqb _ _ c.if-starts-ne0.false))
    (first_skip _ _ _ (sym c.start_falls.ensures ∙ c.if-start_falls.false)
    (first_hit _ _ _ (ap not (ne_eqb _ _ (λ q. c.if-at-indices.true (c.at.ensures ∙ q)))))))

pub returns-then-indices-values : goal.returns-then-indices-values
unfolding broken_steps
returns-then-indices-values c = sym
    (first_skip _ _ _ (ap not (eq-eqb _ _ c.if-starts-ne0.false))
    (first_skip _ _ _ (sym c.start_falls.ensures ∙ c.if-start_falls.false)
    (first_skip _ _ _ (ap not (eq-eqb _ _ (sym c.at.ensures ∙ c.if-at-indices.false)))
    (first_hit _ _ _ (ap not (ne_eqb _ _ c.if-indices-values.true))))))

pub returns : goal.returns
unfolding broken_steps
returns c = sym
    (first_skip _ _ _ (ap not (eq-eqb _ _ c.if-starts-ne0.false))
    (first_skip _ _ _ (sym c.start_falls.ensures ∙ c.if-start_falls.false)
    (first_skip _ _ _ (ap not (eq-eqb _ _ (sym c.at.ensures ∙ c.if-at-indices.false)))
    (first_skip _ _ _ (ap not (eq-eqb _ _ c.if-indices-values.false))
    (first_end _)))))
