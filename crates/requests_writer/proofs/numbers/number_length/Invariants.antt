use Prim.Native.Nat.{◌≤◌, ◌+◌}
use mathlib.Core.Path.{◌≡◌}
use lib.ListN.{length}
use Rattle.matrix_market.specs.Decimal.{decimal}
use Rattle.requests_writer.proofs.numbers.number_length.Given as goal

abbrev pub invariant-loop-y : goal.invariant-loop-y
invariant-loop-y l = (l.m + length (decimal l.y) ≡ length (decimal l.x) + 1) × (l.y ≤ l.x)

abbrev pub decreases-loop-y : goal.decreases-loop-y
decreases-loop-y l = l.y
