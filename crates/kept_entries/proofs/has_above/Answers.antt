use mathlib.Core.Path.{sym, ◌∙◌}
use native.Mathlib.Omega.{arith}
use Rattle.lists.specs.Test.{any_none, any_more, any-hit, any_less}
use Rattle.columns.proofs.Factor.{factor_column}
use Rattle.kept_entries.proofs.has_above.Goals as goal

pub loop-c-init : goal.loop-c-init
loop-c-init c = any_none _

pub above_between-requires : goal.above_between-requires
above_between-requires c = rw (c.at.ensures, c.at-in-loop-c.ensures) (factor_column c.requires c.loop-c.c (omega arith))

pub returns-then-above_between : goal.returns-then-above_between
returns-then-above_between c =
    sym (any-hit _ _ c.loop-c.c (omega arith) (rw (← c.at.ensures, ← c.at-in-loop-c.ensures) (sym c.above_between.ensures ∙ c.if-above_between.true)))

pub loop-c-preserved : goal.loop-c-preserved
loop-c-preserved c =
    any_more _ _ c.loop-c.invariant (rw (← c.at.ensures, ← c.at-in-loop-c.ensures) (sym c.above_between.ensures ∙ c.if-above_between.false))

pub returns : goal.returns
returns c = sym (any_less _ _ _ c.loop-c.invariant (omega arith))
