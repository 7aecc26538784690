use Prim.Native.Nat.{ℕ}
use native.Mathlib.Omega.{arith}
use mathlib.Core.Path.{◌≡◌, ap, ◌∙◌}
use lib.ListN.{length, set}
use Rattle.factor_order.specs.Permutation.{index}
use Rattle.factor_order.specs.Laws.{stored_to}
use Rattle.factor_order.proofs.Laws.{stored_to_none, stored_to_more, stored_inverse}
use Rattle.permutation.proofs.inverse.invert.Goals as goal

pub loop-i-init : goal.loop-i-init
loop-i-init c = stored_to_none _ _

pub overflow_cast-perm_to_orig : goal.overflow_cast-perm_to_orig
overflow_cast-perm_to_orig c = omega (arith, c.requires.orig_to_perm_len_bound.0)

pub bounds-perm_to_orig-p : goal.bounds-perm_to_orig-p
bounds-perm_to_orig-p c =
    omega (arith, c.requires.permutation.inside c.loop-i.i c.loop-i-test.true, c.requires.orig_to_perm_len_bound.1, c.loop-i.auto.perm_to_orig)

pub loop-i-preserved : goal.loop-i-preserved
loop-i-preserved c =
    let perm = c.args.orig_to_perm.now in
    let i = c.loop-i.i in
    ap (λ x. set x (index perm i) i) c.loop-i.invariant ∙ stored_to_more perm _ i

pub returns : goal.returns
returns c =
    let perm = c.args.orig_to_perm.now in
    let e : c.loop-i.i ≡ length perm = omega (arith, c.loop-i-test.false, c.loop-i.auto.i-end) in
    c.loop-i.invariant
    ∙ ap (λ (k : ℕ). stored_to perm c.args.perm_to_orig.now k) e
    ∙ stored_inverse c.requires.permutation _ c.requires.orig_to_perm_len_bound.1
