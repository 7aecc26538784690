use native.Mathlib.Omega.{arith}
use mathlib.Core.Path.{◌≡◌}
use Rattle.closure_route.proofs.LowerLaws.{stored_input, products_none, before_more, products_more}
use Rattle.closure_route.proofs.stored_sums.add_products.Goals as goal

pub loop-p-init : goal.loop-p-init
loop-p-init c = (omega arith, c.requires.sums.storing.ordered, λ i t a b. absurd (omega arith), products_none c.requires.sums c.args.result_values.now c.requires.cleared)

pub add_stored-q-requires : goal.add_stored-q-requires
add_stored-q-requires c = let l = c.loop-p in
    rw l.auto.result_values (stored_input c.requires.sums l.p l.q l.auto.p c.loop-p-test.true l.invariant.0 l.invariant.1)

pub loop-p-preserved : goal.loop-p-preserved
loop-p-preserved c = let l = c.loop-p in
    let R = c.requires.sums in
    let A = c.add_stored-q.ensures in
    let h = c.loop-p-test.true in (
      omega (arith, A.from, l.invariant.0),
      A.upto,
      before_more R l.auto.p h l.invariant.2 l.invariant.3 A,
      products_more R l.auto.p h l.invariant.2 l.invariant.3 A,
    )

pub returns : goal.returns
returns c = let l = c.loop-p in
    let e : l.p ≡ c.args.e = omega (arith, c.requires.sums.storing.column.ordered) in
    rw e at l.invariant.3
