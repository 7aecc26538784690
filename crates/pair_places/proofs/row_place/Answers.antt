use native.Mathlib.Omega.{arith}
use Rattle.pair_places.proofs.row_place.Goals as goal

pub overflow_add-result : goal.overflow_add-result
overflow_add-result c = omega (arith, c.pair_total.ensures.1)

pub returns : goal.returns
returns c = omega (arith, c.pair_total.ensures.0)
