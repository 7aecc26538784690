use mathlib.Core.Path.{refl}
use Rattle.bits.specs.Bits.{bit_at}
use Rattle.words.proofs.bit_words.bit.Goals as goal

-- src/lib.rt:8:1
pub returns : goal.returns
unfolding bit_at
returns c = refl
