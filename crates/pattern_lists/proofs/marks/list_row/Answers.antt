use native.Mathlib.Omega.{arith}
use Rattle.pairs.proofs.Pair.{pair_total_small}
use Rattle.pattern_lists.proofs.RowLaws.{row_none, row_room, row_count, row_listed}
use Rattle.pattern_lists.proofs.marks.list_row.Goals as goal

pub bits_before-low-requires : goal.bits_before-low-requires
bits_before-low-requires c = c.requires.row_reached.small

pub returns-then-r-low : goal.returns-then-r-low
returns-then-r-low c = row_none c.requires.row_reached c.bits_before-low.ensures _ _ _ c.if-r-low.true

pub overflow_add-r : goal.overflow_add-r
overflow_add-r c = omega (arith, c.requires.list_row_input.small)

pub overflow_add-place : goal.overflow_add-place
overflow_add-place c = omega (arith, c.requires.row_reached.starts, c.requires.list_row_input.small, pair_total_small c.args.r (omega (arith, c.requires.list_row_input.small)), c.if-r-low.false)

pub list_bits-count-requires : goal.list_bits-count-requires
list_bits-count-requires c = row_room c.requires.row_reached c.bits_before-low.ensures c.if-r-low.false c.requires.list_row_input

pub repeat_row-requires : goal.repeat_row-requires
repeat_row-requires c = let m = row_count c.requires.row_reached c.bits_before-low.ensures c.if-r-low.false c.list_bits-count.ensures in
    (omega (arith, c.requires.list_row_input.small), omega arith, omega (arith, c.requires.list_row_input.rows_fit))

pub returns : goal.returns
returns c = row_listed c.requires.row_reached c.bits_before-low.ensures c.if-r-low.false c.list_bits-count.ensures c.repeat_row.ensures
