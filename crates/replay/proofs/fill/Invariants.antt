use Rattle.std.proofs.Common.{◌≤◌, ◌-◌, length}
use Rattle.replay.proofs.fill.Given as goal

abbrev pub invariant-loop-filled : goal.invariant-loop-filled
invariant-loop-filled _ l = l.filled ≤ length l.window

abbrev pub decreases-loop-filled : goal.decreases-loop-filled
decreases-loop-filled _ l = length l.window - l.filled
