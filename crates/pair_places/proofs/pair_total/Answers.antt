use native.Mathlib.Omega.{arith}
use Rattle.refusal.specs.Bounds.{max_dimension}
use Rattle.pairs.proofs.Pair.{product_small, pair_total-half, pair_total_small}
use Rattle.pair_places.proofs.pair_total.Goals as goal

pub overflow_mul-result : goal.overflow_mul-result
overflow_mul-result c = omega (arith, product_small c.args.n max_dimension c.requires)

pub returns : goal.returns
returns c = (pair_total-half c.args.n, omega (arith, pair_total-half c.args.n, pair_total_small c.args.n c.requires))
