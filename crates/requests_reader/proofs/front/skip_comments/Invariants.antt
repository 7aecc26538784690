use Prim.Native.Nat.{◌-◌}
use Rattle.requests_reader.proofs.HeaderLaws.{SkipCommentsLoop}
use lib.ListN.{length}
use Rattle.requests_reader.proofs.front.skip_comments.Given as goal

abbrev pub invariant-loop-i : goal.invariant-loop-i
invariant-loop-i l = SkipCommentsLoop l.text l.p l.i

abbrev pub decreases-loop-i : goal.decreases-loop-i
decreases-loop-i l = length l.text - l.i
