use native.Mathlib.Omega.{arith}
use mathlib.Core.Path.{sym}
use Rattle.integers.proofs.Size.{size_more, size_is}
use Rattle.weight_ranges.proofs.Sizes.{term_sizes, least_sum_size, greatest_sum_size}
use Rattle.weight_ranges.proofs.sums.place_bounds.Goals as goal

pub plus_range-total-requires : goal.plus_range-total-requires
plus_range-total-requires c = let l = c.loop-b in
    let n = c.loop-b-test.true in
    let f = c.requires.ranges_ready.few in
    let z = term_sizes c.requires.ranges_ready c.args.a l.b c.requires.a_in_bounds c.loop-b-test.true in
    let x = z.0 in
    let y = z.1 in (
      size_more (size_is (sym l.invariant.low) (least_sum_size c.requires.ranges_ready c.args.a l.b c.requires.a_in_bounds l.auto.b-end)) (omega (arith, n, f)),
      size_more (size_is (sym l.invariant.high) (greatest_sum_size c.requires.ranges_ready c.args.a l.b c.requires.a_in_bounds l.auto.b-end)) (omega (arith, n, f)),
      size_more (size_is (sym c.term_range.ensures.low_value) x) (omega arith),
      size_more (size_is (sym c.term_range.ensures.high_value) y) (omega arith),
    )
