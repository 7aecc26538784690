use mathlib.Core.Path.{sym, ◌∙◌}
use borrow.Author.Tests.{eq-eqb, ne_eqb}
use Rattle.lists.specs.Test.{any_none, any_more, any-hit}
use Rattle.weight_ranges.proofs.checks.seen_before.Goals as goal

pub loop-b-init : goal.loop-b-init
loop-b-init c = any_none _

pub returns-then-at-column : goal.returns-then-at-column
returns-then-at-column c = sym (any-hit _ _ c.loop-b.b c.loop-b-test.true (eq-eqb _ _ (sym c.at.ensures ∙ c.if-at-column.true ∙ c.at-column.ensures)))

pub loop-b-preserved : goal.loop-b-preserved
loop-b-preserved c = any_more _ _ c.loop-b.invariant (ne_eqb _ _ (λ e. c.if-at-column.false (c.at.ensures ∙ e ∙ sym c.at-column.ensures)))
