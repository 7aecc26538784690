use mathlib.Core.Path.{sym, ◌∙◌}
use Rattle.lists.specs.Test.{any_none, any_more, any-hit}
use Rattle.weight_ranges.proofs.checks.some_bad_range.Goals as goal

pub loop-a-init : goal.loop-a-init
loop-a-init c = any_none _

pub returns-then-bad_range : goal.returns-then-bad_range
returns-then-bad_range c = sym (any-hit _ _ c.loop-a.a c.loop-a-test.true (sym c.bad_range.ensures ∙ c.if-bad_range.true))

pub loop-a-preserved : goal.loop-a-preserved
loop-a-preserved c = any_more _ _ c.loop-a.invariant (sym c.bad_range.ensures ∙ c.if-bad_range.false)
