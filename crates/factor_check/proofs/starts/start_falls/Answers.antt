use Rattle.lists.specs.Test.{any_none, any_more, any-hit, any_less}
use borrow.Author.Tests.{lt-ltb, le-ltb}
use native.Mathlib.Omega.{arith}
use mathlib.Core.Path.{sym}
use Rattle.factor_check.proofs.starts.start_falls.Goals as goal

pub loop-c-init : goal.loop-c-init
loop-c-init c = any_none _

pub returns-then-starts-c : goal.returns-then-starts-c
returns-then-starts-c c = sym (any-hit _ _ c.loop-c.c (omega arith) (lt-ltb _ _ c.if-starts-c.true))

pub loop-c-preserved : goal.loop-c-preserved
loop-c-preserved c = any_more _ _ c.loop-c.invariant (le-ltb _ _ c.if-starts-c.false)

pub returns : goal.returns
returns c = sym (any_less _ _ _ c.loop-c.invariant (omega arith))
