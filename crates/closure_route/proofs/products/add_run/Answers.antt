use mathlib.Core.Path.{refl}
use native.Mathlib.Omega.{arith}
use Prim.Native.Nat.{◌-◌, ◌+◌}
use Rattle.closure_route.proofs.PartLaws.{part_none}
use Rattle.closure_route.proofs.ProductLaws.{product_more}
use Rattle.closure_route.proofs.products.add_run.Goals as goal

pub loop-q-init : goal.loop-q-init
loop-q-init c = part_none _ _ _

pub loop-q-preserved : goal.loop-q-preserved
loop-q-preserved c = let l = c.loop-q in
    let a = c.args in
    product_more (λ p. a.position + (p - a.from)) a.l l.invariant l.auto.q (omega arith) refl (omega arith)
