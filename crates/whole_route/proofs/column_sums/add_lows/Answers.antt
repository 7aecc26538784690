use native.Mathlib.Omega.{arith}
use mathlib.Core.Path.{◌≡◌}
use Rattle.whole_route.proofs.ColumnSumLaws.{lows_none, stored_input, lows_more, before_more}
use Rattle.whole_route.proofs.column_sums.add_lows.Goals as goal

pub loop-p-init : goal.loop-p-init
loop-p-init c = (omega arith, λ i t h a b. absurd (omega arith), lows_none c.requires.1)

pub add_stored-q-requires : goal.add_stored-q-requires
add_stored-q-requires c = let l = c.loop-p in
    stored_input c.requires.1.sums l.invariant.2 l.auto.p c.loop-p-test.true l.invariant.1 l.invariant.0

pub loop-p-preserved : goal.loop-p-preserved
loop-p-preserved c = let l = c.loop-p in
    let I = c.requires.1.sums in
    let h = c.loop-p-test.true in
    let A = c.add_stored-q.ensures in
    (A.upto, before_more I l.invariant.2 l.auto.p h l.invariant.1 A, lows_more I l.invariant.2 l.auto.p h l.invariant.1 A)

pub returns : goal.returns
returns c = let l = c.loop-p in
    let e : l.p ≡ c.args.e = omega (arith, c.requires.1.sums.column.ordered) in
    rw e at l.invariant.2
