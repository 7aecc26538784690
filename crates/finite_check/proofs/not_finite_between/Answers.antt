use mathlib.Core.Bool.{not, or-true, or-false}
use mathlib.Core.Path.{ap, sym, ◌∙◌}
use Rattle.lists.specs.Test.{any_in, any_in_none, any_in_next}
use Rattle.columns.specs.Kept.{not_finite}
use Rattle.finite_check.proofs.not_finite_between.Goals as goal
use Rattle.finite_check.proofs.not_finite_between.Goals.{then-not-is_finite, else-not-is_finite}

pub loop-p-init : goal.loop-p-init
loop-p-init c = sym (any_in_none _ _)

pub loop-p-preserved : goal.loop-p-preserved
loop-p-preserved c = let t = not_finite c.args.values.now in
    let s = c.args.s in
    let n = any_in_next t s c.loop-p.p c.loop-p.auto.p in
    elim c.if-not-is_finite.branch [
      | then-not-is_finite w ↦ w.found-is ∙ sym (n ∙ rw (ap not (sym c.is_finite.ensures ∙ w.if-not-is_finite.true)) (or-true (any_in t s c.loop-p.p)))
      | else-not-is_finite w ↦ w.found-is ∙ c.loop-p.invariant ∙ sym (n ∙ rw (ap not (sym c.is_finite.ensures ∙ w.if-not-is_finite.false)) (or-false (any_in t s c.loop-p.p)))
    ]
