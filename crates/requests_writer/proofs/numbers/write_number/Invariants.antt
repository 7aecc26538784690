use Prim.Native.Nat.{◌+◌}
use mathlib.Core.Path.{◌≡◌}
use lib.ListN.{length}
use Rattle.matrix_market.specs.Decimal.{decimal}
use Rattle.requests_writer.proofs.ByteLaws.{LastDigits}
use Rattle.requests_writer.proofs.numbers.write_number.Given as goal

abbrev pub invariant-loop-y : goal.invariant-loop-y
invariant-loop-y l = LastDigits l.x l.place l.initial.text l.text l.i l.y × (l.next ≡ l.place + length (decimal l.x))

abbrev pub decreases-loop-y : goal.decreases-loop-y
decreases-loop-y l = l.y
