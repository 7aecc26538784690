use native.Mathlib.Omega.{arith}
use Prim.Native.Nat.{ℕ, ◌+◌}
use mathlib.Core.Path.{ap}
use lib.ListN.{get_or}
use Rattle.columns.specs.Columns.{row}
use Rattle.closure_route.proofs.PartLaws.{part_none}
use Rattle.closure_route.proofs.ProductLaws.{product_more}
use Rattle.closure_route.proofs.products.add_rows.Goals as goal

pub loop-q-init : goal.loop-q-init
loop-q-init c = part_none _ _ _

pub overflow_add-base : goal.overflow_add-base
overflow_add-base c = let l = c.loop-q in
    omega (arith, c.at.ensures, (c.requires.words l.q l.auto.q c.loop-q-test.true).inside)

pub add_at-requires : goal.add_at-requires
add_at-requires c = let l = c.loop-q in
    rw (l.invariant.long, c.at.ensures) (c.requires.words l.q l.auto.q c.loop-q-test.true)

pub loop-q-preserved : goal.loop-q-preserved
loop-q-preserved c = let l = c.loop-q in
    let a = c.args in
    let e = ap (λ (x : ℕ). get_or a.scratch.now (a.base + x) 0) c.at.ensures in
    rw c.add_at.ensures
    (product_more (λ p. get_or a.scratch.now (a.base + row a.result_rows.now p) 0) a.l l.invariant l.auto.q
    (c.requires.words l.q l.auto.q c.loop-q-test.true).fits e
    (omega (arith, e, c.requires.behind l.q l.auto.q c.loop-q-test.true)))
