use native.Mathlib.Omega.{arith}
use mathlib.Core.Path.{◌≡◌}
use Rattle.closure_route.proofs.UpperLaws.{rest_input, rests_none, reached_more, rests_more}
use Rattle.closure_route.proofs.stored_sums.add_rests.Goals as goal

pub loop-q-init : goal.loop-q-init
loop-q-init c = (omega arith, c.requires.sums.storing.column.ordered, λ t i a b. absurd (omega arith), rests_none c.requires c.args.result_values.now)

pub add_rest-p-requires : goal.add_rest-p-requires
add_rest-p-requires c = let l = c.loop-q in
    rw l.auto.result_values (rest_input c.requires l.p l.q l.invariant.0 l.invariant.1 l.auto.q c.loop-q-test.true)

pub loop-q-preserved : goal.loop-q-preserved
loop-q-preserved c = let l = c.loop-q in
    let R = c.requires in
    let A = c.add_rest-p.ensures in
    let h = c.loop-q-test.true in (
      omega (arith, A.first.from, l.invariant.0),
      A.first.upto,
      reached_more R l.auto.q h l.invariant.0 l.invariant.2 l.invariant.3 A,
      rests_more R l.auto.q h l.invariant.0 l.invariant.2 l.invariant.3 A,
    )

pub returns : goal.returns
returns c = let l = c.loop-q in
    let e : l.q ≡ c.args.last = omega (arith, c.requires.sums.storing.ordered) in
    rw e at l.invariant.3
