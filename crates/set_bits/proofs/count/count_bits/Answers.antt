use native.Mathlib.Omega.{arith}
use Rattle.bits.specs.Bits.{bit_words}
use Rattle.set_bits.proofs.CountLaws.{count_most, count_past, count_is}
use Rattle.set_bits.proofs.count.count_bits.Goals as goal

pub ones_between-full-requires : goal.ones_between-full-requires
unfolding bit_words
ones_between-full-requires c = let h = c.requires in (omega (arith, h.0), omega (arith, h.2), omega (arith, h.1))

pub rest_ones-requires : goal.rest_ones-requires
unfolding bit_words
rest_ones-requires c = let h = c.requires in omega (arith, h.0, h.2)

pub overflow_add-result : goal.overflow_add-result
overflow_add-result c = let a = c.args in
    record {
      fits = omega (arith, c.requires.1, count_most a.words.now a.place a.end c.requires.0 c.rest_ones.ensures c.ones_between-full.ensures);
    }

pub overflow_sub-result : goal.overflow_sub-result
overflow_sub-result c = let a = c.args in
    count_past a.words.now a.place a.end c.requires.0 c.rest_ones.ensures c.ones_between-full.ensures c.rest_ones-2.ensures

pub returns : goal.returns
returns c = let a = c.args in
    count_is a.words.now a.place a.end c.requires.0 c.rest_ones.ensures c.ones_between-full.ensures c.rest_ones-2.ensures
