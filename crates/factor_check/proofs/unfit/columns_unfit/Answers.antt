use mathlib.Core.Path.{sym, ◌∙◌}
use native.Mathlib.Omega.{arith}
use Rattle.lists.specs.Test.{any_none, any_more, any-hit, any_less}
use Rattle.columns.proofs.Factor.{factor_column}
use Rattle.factor_check.proofs.unfit.columns_unfit.Goals as goal

pub loop-c-init : goal.loop-c-init
loop-c-init g c = any_none _

pub column_unfit-requires : goal.column_unfit-requires
column_unfit-requires g c = rw (c.at.ensures, c.at-in-loop-c.ensures) (factor_column c.requires c.loop-c.c (omega arith))

pub returns-then-column_unfit : goal.returns-then-column_unfit
returns-then-column_unfit g c =
    sym (any-hit _ _ c.loop-c.c (omega arith) (rw (← c.at.ensures, ← c.at-in-loop-c.ensures) (sym c.column_unfit.ensures ∙ c.if-column_unfit.true)))

pub loop-c-preserved : goal.loop-c-preserved
loop-c-preserved g c =
    any_more _ _ c.loop-c.invariant (rw (← c.at.ensures, ← c.at-in-loop-c.ensures) (sym c.column_unfit.ensures ∙ c.if-column_unfit.false))

pub returns : goal.returns
returns g c = sym (any_less _ _ _ c.loop-c.invariant (omega arith))
