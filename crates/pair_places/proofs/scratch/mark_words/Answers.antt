use Prim.Native.Nat.{ℕ, ◌+◌, ◌/◌}
use native.Mathlib.Omega.{arith}
use mathlib.Core.Path.{ap}
use Rattle.bits.specs.Bits.{bit_words}
use Rattle.pair_places.proofs.scratch.mark_words.Goals as goal

pub returns : goal.returns
unfolding bit_words
returns c = (ap (λ (k : ℕ). (k + 31) / 32) c.pair_total.ensures.0, omega (arith, c.pair_total.ensures.1))
