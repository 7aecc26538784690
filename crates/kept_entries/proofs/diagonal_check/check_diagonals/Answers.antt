use Rattle.columns.proofs.Diagonal.{diagonal_steps-refused, diagonal_steps-clear}
use Rattle.columns.proofs.Factor.{factor_column}
use Rattle.lists.specs.Test.{any_none, any_more, any_less}
use native.Mathlib.Omega.{arith}
use mathlib.Core.Path.{sym, ◌∙◌}
use Rattle.kept_entries.proofs.diagonal_check.check_diagonals.Goals as goal

pub loop-c-init : goal.loop-c-init
loop-c-init c = any_none _

pub bad_diagonal-requires : goal.bad_diagonal-requires
bad_diagonal-requires c = rw (c.at.ensures, c.at-in-loop-c.ensures) (factor_column c.requires c.loop-c.c (omega arith))

pub returns-then-bad_diagonal : goal.returns-then-bad_diagonal
returns-then-bad_diagonal c =
    sym
    (diagonal_steps-refused _ _ _ _ c.loop-c.c (omega arith)
    (rw (← c.at.ensures, ← c.at-in-loop-c.ensures) (sym c.bad_diagonal.ensures ∙ c.if-bad_diagonal.true)))

pub loop-c-preserved : goal.loop-c-preserved
loop-c-preserved c =
    any_more _ _ c.loop-c.invariant (rw (← c.at.ensures, ← c.at-in-loop-c.ensures) (sym c.bad_diagonal.ensures ∙ c.if-bad_diagonal.false))

pub returns : goal.returns
returns c = sym (diagonal_steps-clear _ _ _ _ (any_less _ _ _ c.loop-c.invariant (omega arith)))
