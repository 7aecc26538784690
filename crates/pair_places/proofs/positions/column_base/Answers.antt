use native.Mathlib.Omega.{arith}
use Rattle.pair_places.specs.Position.{shift_fits}
use Rattle.pair_places.proofs.positions.column_base.Goals as goal

pub overflow_add-result : goal.overflow_add-result
overflow_add-result c = omega (arith, c.queue_start.ensures.0, shift_fits c.args.n c.args.c c.column_shift.result c.requires.0 c.requires.1 c.column_shift.ensures)

pub returns : goal.returns
returns c = omega (arith, c.queue_start.ensures.0, c.column_shift.ensures)
