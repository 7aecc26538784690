use Rattle.std.proofs.Common.{◌≤◌, length}
use Rattle.replay.proofs.play_all.Given as goal

abbrev pub invariant-loop : goal.invariant-loop
invariant-loop _ l = l.held ≤ length l.window
