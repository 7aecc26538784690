use native.Mathlib.Omega.{arith}
use native.Mathlib.Nat.{le_refl}
use mathlib.Core.Path.{sym}
use lib.ListN.{length}
use Rattle.integers.proofs.Size.{size_more, size_is}
use Rattle.weight_ranges.proofs.Sizes.{least_sum_size, greatest_sum_size, least_sums_size, greatest_sums_size}
use Rattle.weight_ranges.proofs.sums.row_bounds.Goals as goal

pub plus_range-total-requires : goal.plus_range-total-requires
plus_range-total-requires c = let l = c.loop-a in
    let n = c.loop-a-test.true in
    let f = c.requires.few in
    let x = least_sum_size c.requires l.a (length c.args.columns.now) c.loop-a-test.true (le_refl _) in
    let y = greatest_sum_size c.requires l.a (length c.args.columns.now) c.loop-a-test.true (le_refl _) in (
      size_more (size_is (sym l.invariant.low) (least_sums_size c.requires l.a l.auto.a-end)) (omega (arith, n, f)),
      size_more (size_is (sym l.invariant.high) (greatest_sums_size c.requires l.a l.auto.a-end)) (omega (arith, n, f)),
      size_more (size_is (sym c.place_bounds.ensures.low_value) x) (omega arith),
      size_more (size_is (sym c.place_bounds.ensures.high_value) y) (omega arith),
    )
