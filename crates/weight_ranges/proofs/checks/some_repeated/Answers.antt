use mathlib.Core.Path.{sym, ◌∙◌}
use Rattle.lists.specs.Test.{any_none, any_more, any-hit}
use Rattle.weight_ranges.proofs.checks.some_repeated.Goals as goal

pub loop-a-init : goal.loop-a-init
loop-a-init c = any_none _

pub returns-then-seen_before : goal.returns-then-seen_before
returns-then-seen_before c = sym (any-hit _ _ c.loop-a.a c.loop-a-test.true (sym c.seen_before.ensures ∙ c.if-seen_before.true))

pub loop-a-preserved : goal.loop-a-preserved
loop-a-preserved c = any_more _ _ c.loop-a.invariant (sym c.seen_before.ensures ∙ c.if-seen_before.false)
