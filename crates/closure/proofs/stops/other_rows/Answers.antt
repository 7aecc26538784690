use mathlib.Core.Bool.{Bool, ◌||◌, not, or-false}
use Rattle.lists.specs.Test.{any_in, any_in_none, any_in_next, or_right}
use Rattle.columns.specs.Columns.{row}
use Rattle.closure.specs.Covered.{other_row}
use borrow.Author.Tests.{eq-eqb, ne_eqb}
use Prim.Native.Nat.{◌+◌, ◌-◌}
use mathlib.Core.Path.{sym, ap, ◌∙◌}
use Rattle.closure.proofs.stops.other_rows.Goals.{else-rows-i, then-rows-i}
use Rattle.closure.proofs.stops.other_rows.Goals as goal

pub loop-i-init : goal.loop-i-init
loop-i-init c = sym (any_in_none _ _)

pub loop-i-preserved : goal.loop-i-preserved
loop-i-preserved c = let i = c.loop-i in
    let a = c.args in
    let rows = a.rows.now in
    let test = other_row rows a.a a.j in
    let n = any_in_next test a.a i.i i.auto.i in
    elim c.if-rows-i.branch [
      | then-rows-i w ↦ w.other-is ∙ sym (n ∙ or_right (any_in test a.a i.i) (test i.i) (ap not (ne_eqb (row rows i.i) (row rows (a.j + (i.i - a.a))) w.if-rows-i.true)))
      | else-rows-i w ↦ w.other-is ∙ i.invariant ∙ sym (n ∙ ap (λ (b : Bool). any_in test a.a i.i || b) (ap not (eq-eqb (row rows i.i) (row rows (a.j + (i.i - a.a))) w.if-rows-i.false))
          ∙ or-false (any_in test a.a i.i))
    ]
