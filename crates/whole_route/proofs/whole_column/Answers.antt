use native.Mathlib.Omega.{arith}
use mathlib.Core.Path.{ap, ◌∙◌}
use lib.ListN.{length}
use Rattle.lists.specs.Overwrite.{splice-length}
use Rattle.pairs.proofs.Pair.{pair_total_small}
use Rattle.pairs.proofs.ColumnOrder.{col_start_mono, col_start_total}
use Rattle.whole_route.proofs.RowsLaws.{rows_kept, sums_kept, rows_since}
use Rattle.whole_route.proofs.ColumnLaws.{column_room, column_rows_lem}
use Rattle.whole_route.proofs.whole_column.Goals as goal

pub column_shift-requires : goal.column_shift-requires
column_shift-requires c = let P = c.requires.whole_column_input in (P.whole.small, P.inside)

pub overflow_add-column_shift : goal.overflow_add-column_shift
overflow_add-column_shift c = let n = c.args.n in
    omega (arith, c.column_shift.ensures, col_start_mono n c.args.j n (omega (arith, c.requires.whole_column_input.inside)), col_start_total n, pair_total_small n c.requires.whole_column_input.whole.small)

pub list_column-count-requires : goal.list_column-count-requires
list_column-count-requires c = column_room c.requires.whole_column_input c.column_shift.ensures

pub at-s-requires : goal.at-s-requires
at-s-requires c = omega (arith, c.requires.whole_column_input.inside, c.requires.whole_column_input.whole.factor.starts_rise.columns)

pub overflow_add-j : goal.overflow_add-j
overflow_add-j c = omega (arith, c.requires.whole_column_input.inside, c.requires.whole_column_input.whole.small)

pub at-e-requires : goal.at-e-requires
at-e-requires c = omega (arith, c.requires.whole_column_input.inside, c.requires.whole_column_input.whole.factor.starts_rise.columns)

pub sum_column-summed-requires : goal.sum_column-summed-requires
sum_column-summed-requires c = let L = c.list_column-count.ensures in
    let R = column_rows_lem c.requires.whole_column_input L
    (ap length L.rows_is ∙ splice-length 0 _ c.args.listed.now (column_room c.requires.whole_column_input c.column_shift.ensures).fits)
    c.at-s.ensures c.at-e.ensures in
    record { rows_input = R; most_from = λ p lo hi. c.requires.most_from p (omega (arith, R.count_is)) hi }

pub whole_rows-requires : goal.whole_rows-requires
whole_rows-requires c = let L = c.list_column-count.ensures in
    let R = column_rows_lem c.requires.whole_column_input L
    (ap length L.rows_is ∙ splice-length 0 _ c.args.listed.now (column_room c.requires.whole_column_input c.column_shift.ensures).fits)
    c.at-s.ensures c.at-e.ensures in
    record { rows_input = rows_kept R c.sum_column-summed.ensures; whole_sums_stored = sums_kept R c.sum_column-summed.ensures }

pub returns : goal.returns
returns c = let L = c.list_column-count.ensures in
    let R = column_rows_lem c.requires.whole_column_input L
    (ap length L.rows_is ∙ splice-length 0 _ c.args.listed.now (column_room c.requires.whole_column_input c.column_shift.ensures).fits)
    c.at-s.ensures c.at-e.ensures in
    rows_since R c.sum_column-summed.ensures c.whole_rows.ensures
