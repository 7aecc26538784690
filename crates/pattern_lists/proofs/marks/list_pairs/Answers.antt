use Prim.Native.Nat.{◌+◌, ◌/◌}
use native.Mathlib.Omega.{arith}
use mathlib.Core.Path.{sym}
use Rattle.pairs.proofs.Pair.{pair_total_none, pair_total_next, pair_total_small}
use Rattle.pattern_lists.proofs.ListingLaws.{listed_none, listed_more, listed_room}
use Rattle.pattern_lists.proofs.RowLaws.{zeros_none, zeros_later, place_inside, row_reached}
use Rattle.pattern_lists.proofs.marks.list_pairs.Goals as goal

pub loop-r-init : goal.loop-r-init
loop-r-init c = (
  listed_none _ _ _,
  sym pair_total_none,
  zeros_none _,
)

pub marked_word-w-requires : goal.marked_word-w-requires
marked_word-w-requires c = let l = c.loop-r in
    record { place_in_bounds = place_inside c.requires l.auto.r-end l.invariant.1; zeros = l.invariant.2 }

pub list_row-count-requires : goal.list_row-count-requires
list_row-count-requires c = let l = c.loop-r in
    let P = c.requires in record { list_row_input = listed_room P c.loop-r-test.true l.invariant.0 l.auto.rows l.auto.columns; row_reached = row_reached P l.auto.r-end l.invariant.1 c.marked_word-w.ensures }

pub loop-r-preserved : goal.loop-r-preserved
loop-r-preserved c = let l = c.loop-r in (
  listed_more l.invariant.0 c.list_row-count.ensures,
  omega (arith, l.invariant.1, pair_total_next l.r),
  zeros_later c.marked_word-w.ensures ((l.place + (l.r + 1)) / 32) (omega arith),
)

pub overflow_add-place-in-loop-r : goal.overflow_add-place-in-loop-r
overflow_add-place-in-loop-r c = let l = c.loop-r in
    let small = c.requires.small in
    omega (arith, small, l.invariant.1, pair_total_small l.r (omega (arith, c.loop-r-test.true, small)))
