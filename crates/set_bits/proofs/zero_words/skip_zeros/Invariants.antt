use Rattle.set_bits.specs.Zeros.{Zeros}
use Rattle.set_bits.proofs.zero_words.skip_zeros.Given as goal

abbrev pub invariant-loop-w : goal.invariant-loop-w
invariant-loop-w l = Zeros l.words l.first l.end l.w
