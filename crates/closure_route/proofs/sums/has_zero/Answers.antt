use mathlib.Core.Bool.{Bool, ◌||◌, or-false}
use Rattle.lists.specs.Test.{any_in, any_in_none, any_in_next, or_right}
use Rattle.closure_route.specs.Rest.{zero_at}
use mathlib.Core.Path.{sym, ap, ◌∙◌}
use Rattle.closure_route.proofs.sums.has_zero.Goals.{else-values-p, then-values-p}
use Rattle.closure_route.proofs.sums.has_zero.Goals as goal

pub loop-p-init : goal.loop-p-init
loop-p-init c = sym (any_in_none _ _)

pub loop-p-preserved : goal.loop-p-preserved
loop-p-preserved c = let i = c.loop-p in
    let test = zero_at c.args.values.now in
    let s = c.args.s in
    let n = any_in_next test s i.p i.auto.p in
    elim c.if-values-p.branch [ then-values-p w ↦ w.found-is ∙ sym (n ∙ or_right (any_in test s i.p) (test i.p) w.if-values-p.true) | else-values-p w ↦ w.found-is ∙ i.invariant ∙ sym (n ∙ ap (λ (b : Bool). any_in test s i.p || b) w.if-values-p.false ∙ or-false (any_in test s i.p)) ]
