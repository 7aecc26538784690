use Rattle.case_text.proofs.TextLaws.{begins_short, begins_differs, begins_same}
use Rattle.lists.specs.Test.{any_none, any_more, any_less}
use borrow.Author.Tests.{eq-eqb, ne_eqb}
use mathlib.Core.Bool.{not}
use mathlib.Core.Path.{ap}
use native.Mathlib.Omega.{arith}
use Rattle.case_text.proofs.begins.Goals as goal

pub returns-then-text-label : goal.returns-then-text-label
returns-then-text-label c = begins_short _ _ _ (omega arith)

pub returns-then-text-label-2 : goal.returns-then-text-label-2
returns-then-text-label-2 c = begins_short _ _ _ (omega arith)

pub loop-i-init : goal.loop-i-init
loop-i-init c = any_none _

pub returns-then-text-p : goal.returns-then-text-p
returns-then-text-p c = begins_differs _ _ _ c.loop-i.i (omega arith) (omega arith) (ap not (ne_eqb _ _ c.if-text-p.true))

pub loop-i-preserved : goal.loop-i-preserved
loop-i-preserved c = any_more _ _ c.loop-i.invariant (ap not (eq-eqb _ _ c.if-text-p.false))

pub returns : goal.returns
returns c = begins_same _ _ _ (omega arith) (any_less _ _ _ c.loop-i.invariant (omega arith))
