use native.Mathlib.Omega.{arith}
use Rattle.pairs.proofs.Pair.{pair_total_small}
use Rattle.pairs.proofs.ColumnOrder.{col_start_least, col_start_mono, col_start_total}
use Rattle.layout.proofs.LayoutLaws.{column_positions, column_placed}
use Rattle.layout.proofs.firsts.place_column.Goals as goal

pub list_column-count-requires : goal.list_column-count-requires
list_column-count-requires c = c.requires.0

pub overflow_sub-place : goal.overflow_sub-place
overflow_sub-place c = omega (arith, c.requires.0.start, col_start_least c.args.n c.args.c (omega (arith, c.requires.0.inside)))

pub overflow_add-queue_start : goal.overflow_add-queue_start
overflow_add-queue_start c = let n = c.args.n in
    omega (
      arith,
      c.queue_start.ensures.1,
      c.requires.0.start,
      col_start_mono n c.args.c n (omega (arith, c.requires.0.inside)),
      col_start_total n,
      pair_total_small n c.requires.0.small,
    )

pub lay_positions-requires : goal.lay_positions-requires
lay_positions-requires c = rw c.queue_start.ensures.0 (column_positions c.args.first c.requires.0 (omega (arith, c.requires.1)) c.list_column-count.ensures)

pub overflow_add-result : goal.overflow_add-result
overflow_add-result c = omega (arith, c.list_column-count.ensures.count_is, c.requires.1)

pub returns : goal.returns
returns c = (
  omega (arith, c.list_column-count.ensures.count_is),
  column_placed c.args.first c.requires.0 (omega (arith, c.requires.1)) c.list_column-count.ensures (omega arith) (rw c.queue_start.ensures.0 at c.lay_positions.ensures),
)
