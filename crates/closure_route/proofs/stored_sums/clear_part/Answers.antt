use native.Mathlib.Omega.{arith}
use mathlib.Core.Path.{refl}
use Rattle.closure_route.proofs.PartLaws.{part_none, part_more}
use Rattle.closure_route.proofs.stored_sums.clear_part.Goals as goal

pub loop-q-init : goal.loop-q-init
loop-q-init c = part_none _ _ _

pub loop-q-preserved : goal.loop-q-preserved
loop-q-preserved c = part_more c.loop-q.invariant c.loop-q.auto.q (omega arith) refl
