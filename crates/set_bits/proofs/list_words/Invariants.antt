use Prim.Native.Nat.{◌-◌}
use mathlib.Core.Path.{◌≡◌}
use lib.ListN.{length}
use Rattle.set_bits.proofs.BitsLaws.{WordsPart}
use Rattle.set_bits.proofs.list_words.Given as goal

abbrev pub invariant-loop-w : goal.invariant-loop-w
invariant-loop-w l = (length l.list ≡ length l.initial.list) × WordsPart l.high l.word l.low l.first l.initial.list l.words l.w l.list l.count

abbrev pub decreases-loop-w : goal.decreases-loop-w
decreases-loop-w l = l.end - l.w
