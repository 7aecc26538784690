use Prim.Native.Nat.{◌*◌, ◌≤◌}
use mathlib.Core.Path.{◌≡◌}
use Rattle.lists.specs.Select.{tally}
use Rattle.bits.specs.Bits.{bit_at}
use Rattle.set_bits.proofs.count.ones_between.Given as goal

abbrev pub invariant-loop-w : goal.invariant-loop-w
invariant-loop-w l = (l.count ≤ 32 * l.w) × (l.count ≡ tally (bit_at l.words) (l.first * 32) (l.w * 32))
