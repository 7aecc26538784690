use Rattle.floor.proofs.Applied.{Applied}
use Rattle.floor.proofs.floored.apply_floor.Given as goal

abbrev pub invariant-loop-i : goal.invariant-loop-i
invariant-loop-i l = Applied l.floor_value l.values l.initial.output l.output l.floor_hits l.i
