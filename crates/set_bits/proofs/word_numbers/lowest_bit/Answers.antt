use native.Mathlib.Omega.{arith}
use lib.Count.{trailing_le}
use Rattle.bits.proofs.Bits.{trailing_lowest}
use Rattle.set_bits.proofs.word_numbers.lowest_bit.Goals as goal

pub overflow_cast-result : goal.overflow_cast-result
overflow_cast-result c = omega (arith, trailing_le 32 c.args.w)

pub returns : goal.returns
returns c = trailing_lowest 32 c.args.w c.requires (omega arith)
