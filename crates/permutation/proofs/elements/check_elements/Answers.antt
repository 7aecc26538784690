use Prim.Native.Nat.{ℕ}
use native.Mathlib.Omega.{arith}
use mathlib.Core.Path.{◌≡◌, refl, sym, subst, ◌∙◌}
use lib.ListN.{length}
use Rattle.refusal.specs.Steps.{Passed, each}
use Rattle.refusal.proofs.Steps.{each_refused}
use Rattle.factor_order.specs.Permutation.{element_steps}
use Rattle.permutation.proofs.ElementLaws.{looked_none, looked_more, element_large, element_repeated, element_disagrees}
use Rattle.permutation.proofs.elements.check_elements.Goals as goal

pub loop-i-init : goal.loop-i-init
loop-i-init c = looked_none _ _ _

pub returns-then-n-p : goal.returns-then-n-p
returns-then-n-p c =
    let l = c.loop-i in
    sym (each_refused _ _ l.i 10 tt c.loop-i-test.true l.invariant.passed (element_large _ _ _ l.i l.seen l.invariant c.if-n-p.true))

pub returns-then-seen-p : goal.returns-then-seen-p
returns-then-seen-p c =
    let l = c.loop-i in
    sym
    (each_refused _ _ l.i 11 tt c.loop-i-test.true l.invariant.passed
    (element_repeated _ _ _ l.i l.seen l.invariant _ refl c.if-n-p.false c.requires.orig_to_perm_len_bound c.if-seen-p.true))

pub disagrees-requires : goal.disagrees-requires
disagrees-requires c = λ e. omega (arith, c.requires.orig_to_perm_in_bounds e, c.if-n-p.false)

pub returns-then-disagrees : goal.returns-then-disagrees
returns-then-disagrees c =
    let l = c.loop-i in
    sym
    (each_refused _ _ l.i 12 tt c.loop-i-test.true l.invariant.passed
    (element_disagrees _ _ _ l.i l.seen l.invariant _ refl c.if-n-p.false c.requires.orig_to_perm_len_bound c.if-seen-p.false
    (sym c.disagrees.ensures ∙ c.if-disagrees.true)))

pub loop-i-preserved : goal.loop-i-preserved
loop-i-preserved c =
    let l = c.loop-i in
    looked_more _ _ _ l.i l.seen l.invariant _ refl c.if-n-p.false c.requires.orig_to_perm_len_bound c.if-seen-p.false
    (sym c.disagrees.ensures ∙ c.if-disagrees.false)

pub returns : goal.returns
returns c =
    let a = c.args in
    let e : c.loop-i.i ≡ length a.orig_to_perm.now = omega (arith, c.loop-i-test.false, c.loop-i.auto.i-end) in
    sym (subst (λ (k : ℕ). Passed (each (element_steps a.compared a.orig_to_perm.now a.perm_to_orig.now) k)) e c.loop-i.invariant.passed)
