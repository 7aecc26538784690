use Rattle.std.proofs.Common.{◌≤◌, ◌-◌, length}
use Rattle.replay.proofs.cases.replay.Given as goal

abbrev pub invariant-loop-past : goal.invariant-loop-past
invariant-loop-past _ l = l.p ≤ length l.text

abbrev pub decreases-loop-past : goal.decreases-loop-past
decreases-loop-past _ l = length l.text - l.p
