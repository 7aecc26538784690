use Prim.Native.Nat.{◌-◌}
use mathlib.Core.Path.{◌≡◌}
use lib.ListN.{length}
use Rattle.pattern_lists.proofs.CountLaws.{before}
use Rattle.pattern_lists.proofs.marks.count_marks.Given as goal

abbrev pub invariant-loop-w : goal.invariant-loop-w
invariant-loop-w l = l.count ≡ before l.end l.marks l.w

abbrev pub decreases-loop-w : goal.decreases-loop-w
decreases-loop-w l = length l.marks - l.w
