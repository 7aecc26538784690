use Prim.Native.Nat.{◌-◌}
use mathlib.Core.Path.{◌≡◌}
use lib.ListN.{length}
use Rattle.set_bits.proofs.WordLaws.{WordPart}
use Rattle.set_bits.proofs.word_numbers.list_word.Given as goal

abbrev pub invariant-loop-w : goal.invariant-loop-w
invariant-loop-w l = (length l.list ≡ length l.initial.list) × WordPart l.word l.low l.end l.first l.initial.list l.w l.r l.list l.count

abbrev pub decreases-loop-w : goal.decreases-loop-w
decreases-loop-w l = l.end - l.r
