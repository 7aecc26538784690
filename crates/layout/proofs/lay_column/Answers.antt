use native.Mathlib.Omega.{arith}
use Rattle.pairs.proofs.Pair.{pair_total_small}
use Rattle.pairs.proofs.ColumnOrder.{col_start_least, col_start_mono, col_start_total}
use Rattle.layout.proofs.LayoutLaws.{column_bits, column_next, column_input, column_listed, column_positions, column_placed}
use Rattle.layout.proofs.lay_column.Goals as goal

pub overflow_add-place : goal.overflow_add-place
overflow_add-place c = record { fits = omega (arith, (column_bits c.requires.room).1) }

pub count_bits-requires : goal.count_bits-requires
count_bits-requires c = column_bits c.requires.room

pub overflow_add-next : goal.overflow_add-next
overflow_add-next c = record { fits = omega (arith, column_next c.requires.room c.count_bits.ensures, c.requires.few) }

pub list_bits-requires : goal.list_bits-requires
list_bits-requires c = column_input c.requires.room

pub overflow_sub-place : goal.overflow_sub-place
overflow_sub-place c = omega (arith, c.requires.room.start, col_start_least c.args.n c.args.c (omega (arith, c.requires.room.inside)))

pub overflow_add-queue_start : goal.overflow_add-queue_start
overflow_add-queue_start c = let n = c.args.n in
    omega (
      arith,
      c.queue_start.ensures.1,
      c.requires.room.start,
      col_start_mono n c.args.c n (omega (arith, c.requires.room.inside)),
      col_start_total n,
      pair_total_small n c.requires.room.small,
    )

pub lay_positions-requires : goal.lay_positions-requires
lay_positions-requires c = rw c.queue_start.ensures.0
    (column_positions 0 c.requires.room (omega (arith, c.requires.few)) (column_listed c.requires.room c.list_bits.ensures (column_next c.requires.room c.count_bits.ensures)))

pub returns : goal.returns
returns c = let L = column_listed c.requires.room c.list_bits.ensures (column_next c.requires.room c.count_bits.ensures) in
    record { listed = L; placed = column_placed 0 c.requires.room (omega (arith, c.requires.few)) L (omega arith) (rw c.queue_start.ensures.0 at c.lay_positions.ensures) }
