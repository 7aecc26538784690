use Rattle.pairs.proofs.ColumnOrder.{col_start-half, col_start-product}
use Rattle.refusal.specs.Bounds.{max_dimension}
use native.Mathlib.Omega.{arith}
use Rattle.pair_places.proofs.column_place.Goals as goal

pub overflow_mul-result-2 : goal.overflow_mul-result-2
overflow_mul-result-2 c = omega (arith, col_start-product c.args.n c.args.c max_dimension c.requires.0 (omega arith))

pub overflow_add-result-2 : goal.overflow_add-result-2
overflow_add-result-2 c = omega (arith, col_start-product c.args.n c.args.c max_dimension c.requires.0 (omega arith))

pub returns : goal.returns
returns c = omega (arith, col_start-half c.args.n c.args.c (omega arith))
