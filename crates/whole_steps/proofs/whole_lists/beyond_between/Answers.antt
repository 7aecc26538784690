use mathlib.Core.Bool.{Bool, ◌||◌, or-true, or-false}
use mathlib.Core.Path.{◌≡◌, ap, sym, ◌∙◌}
use mir.Syntax.{w64}
use mir.ValLaws.{to_z-of_z}
use Rattle.lists.specs.Test.{any_in, any_in_none, any_in_next}
use Rattle.exact.specs.Checked.{beyond}
use Rattle.whole_steps.proofs.whole_lists.beyond_between.Invariants.{test}
use Rattle.whole_steps.proofs.whole_lists.beyond_between.Goals as goal
use Rattle.whole_steps.proofs.whole_lists.beyond_between.Goals.{then-is_beyond, else-is_beyond}

pub loop-p-init : goal.loop-p-init
loop-p-init c = sym (any_in_none _ _)

pub loop-p-preserved : goal.loop-p-preserved
loop-p-preserved c =
    let s = c.args.s in
    let p = c.loop-p.p in
    let t = test c.args.wholes.now in
    let n = any_in_next t s p c.loop-p.auto.p in
    let told : t p ≡ c.is_beyond.result =
    sym (c.is_beyond.ensures ∙ ap beyond (to_z-of_z w64 c.whole_at.result (record { sfits = c.whole_at.type_inv }) ∙ c.whole_at.ensures)) in
    elim c.if-is_beyond.branch [
      | then-is_beyond v ↦ v.found-is ∙ sym (n ∙ ap (λ (x : Bool). any_in t s p || x) (told ∙ v.if-is_beyond.true) ∙ or-true (any_in t s p))
      | else-is_beyond v ↦ v.found-is ∙ c.loop-p.invariant ∙ sym (n ∙ ap (λ (x : Bool). any_in t s p || x) (told ∙ v.if-is_beyond.false) ∙ or-false (any_in t s p))
    ]
