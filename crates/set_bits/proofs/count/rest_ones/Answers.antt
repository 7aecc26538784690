use native.Mathlib.Omega.{arith}
use Rattle.bits.specs.Bits.{bit_words}
use Rattle.set_bits.proofs.CountLaws.{rest_none, rest_some}
use Rattle.set_bits.proofs.count.rest_ones.Goals as goal

pub returns-then-p-eq0 : goal.returns-then-p-eq0
returns-then-p-eq0 c = let a = c.args in
    rest_none a.words.now a.p c.if-p-eq0.true

pub bounds-words-p : goal.bounds-words-p
unfolding bit_words
bounds-words-p c = omega (arith, c.requires, c.if-p-eq0.false)

pub returns : goal.returns
returns c = let a = c.args in
    rest_some a.words.now a.p c.if-p-eq0.false c.ones_from.ensures.0
