use native.Mathlib.Omega.{arith}
use mathlib.Core.Path.{◌≡◌}
use Rattle.whole_route.specs.ColumnSums.{column_sums}
use Rattle.whole_route.proofs.ColumnSumLaws.{highs_none, high_input, highs_more, up_to_more}
use Rattle.whole_route.proofs.column_sums.add_highs.Goals as goal

pub loop-q-init : goal.loop-q-init
loop-q-init c = let a = c.args in
    let H = c.requires.1 in
    (omega arith, H.sums.column.ordered, λ p i a h b k. absurd (omega arith), highs_none (column_sums a.n a.j a.first a.count a.s a.e a.listed.now a.rows.now a.values.now a.scratch.now) a.work.now)

pub add_high-f-requires : goal.add_high-f-requires
add_high-f-requires c = let l = c.loop-q in
    high_input c.requires.1 l.invariant.3 c.loop-q-test.true l.invariant.2 l.invariant.0 l.invariant.1

pub loop-q-preserved : goal.loop-q-preserved
loop-q-preserved c = let l = c.loop-q in
    let H = c.requires.1 in
    let h = c.loop-q-test.true in
    let A = c.add_high-f.ensures in
    (omega (arith, l.invariant.0, A.from), A.upto, up_to_more H l.invariant.3 h l.invariant.2 A, highs_more H l.invariant.3 h l.invariant.2 A)

pub returns : goal.returns
returns c = let l = c.loop-q in
    let e : l.q ≡ c.args.count = omega arith in
    rw e at l.invariant.3
