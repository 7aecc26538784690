use native.Mathlib.Omega.{arith}
use Rattle.whole_route.proofs.ColumnSumLaws.{cleared_input, highs_input, sums_done}
use Rattle.whole_route.proofs.column_sums.store_sums.Goals as goal

pub overflow_add-first : goal.overflow_add-first
overflow_add-first c = let P = c.requires.1 in omega (arith, P.fits)

pub clear_part-requires : goal.clear_part-requires
clear_part-requires c = let P = c.requires.1 in (omega arith, P.fits)

pub add_lows-requires : goal.add_lows-requires
add_lows-requires c = (c.requires.0, cleared_input c.requires.1 c.clear_part.ensures)

pub add_highs-requires : goal.add_highs-requires
add_highs-requires c = (c.requires.0, highs_input c.requires.1 c.clear_part.ensures c.add_lows.ensures)

pub returns : goal.returns
returns c = sums_done c.requires.1 c.clear_part.ensures c.add_lows.ensures c.add_highs.ensures

pub shape_of-work : goal.shape_of-work
shape_of-work c = (returns c).long
