use native.Mathlib.Omega.{arith}
use Rattle.whole_route.proofs.ColumnSumLaws.{part_none, part_more}
use Rattle.whole_route.proofs.column_sums.clear_part.Goals as goal

pub loop-q-init : goal.loop-q-init
loop-q-init c = part_none _ _

pub loop-q-preserved : goal.loop-q-preserved
loop-q-preserved c = part_more c.loop-q.invariant c.loop-q.auto.q (omega arith)
