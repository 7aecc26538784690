use Prim.Native.Nat.{◌<◌}
use native.Mathlib.Omega.{arith}
use mathlib.Core.Path.{refl, ◌∙◌}
use borrow.Author.Rules.{rules}
use Rattle.set_bits.proofs.BitsLaws.{WordsPart, words_none, words_end, words_skip, word_low, words_low, words_room, words_more}
use Rattle.set_bits.proofs.list_words.Goals as goal

-- the words up to the one found are done
found-Then-w-end : (q : goal.Then-w-end)
    → WordsPart q.args.high q.args.word q.args.low q.args.first q.args.list.now
    q.args.words.now q.skip_zeros-w.result q.loop-w.list q.loop-w.count
found-Then-w-end q = words_skip q.requires q.loop-w.invariant.1 q.skip_zeros-w.ensures.before

-- the words up to the one found are done
found-Else-w-end : (q : goal.Else-w-end)
    → WordsPart q.args.high q.args.word q.args.low q.args.first q.args.list.now
    q.args.words.now q.skip_zeros-w.result q.loop-w.list q.loop-w.count
found-Else-w-end q = words_skip q.requires q.loop-w.invariant.1 q.skip_zeros-w.ensures.before

-- the words up to the one found are done
found-After-shared_slice_known-in-loop-w-1 : (q : goal.After-shared_slice_known-in-loop-w-1)
    → WordsPart q.args.high q.args.word q.args.low q.args.first q.args.list.now
    q.args.words.now q.skip_zeros-w.result q.loop-w.list q.loop-w.count
found-After-shared_slice_known-in-loop-w-1 q = words_skip q.requires q.loop-w.invariant.1 q.skip_zeros-w.ensures.before

-- the words up to the one found are done
found-After-list_word-arg-1 : (q : goal.After-list_word-arg-1)
    → WordsPart q.args.high q.args.word q.args.low q.args.first q.args.list.now
    q.args.words.now q.skip_zeros-w.result q.loop-w.list q.loop-w.count
found-After-list_word-arg-1 q = words_skip q.requires q.loop-w.invariant.1 q.skip_zeros-w.ensures.before

-- the words up to the one found are done
found-After-slice_known-in-loop-w-1 : (q : goal.After-slice_known-in-loop-w-1)
    → WordsPart q.args.high q.args.word q.args.low q.args.first q.args.list.now
    q.args.words.now q.skip_zeros-w.result q.loop-w.list q.loop-w.count
found-After-slice_known-in-loop-w-1 q = words_skip q.requires q.loop-w.invariant.1 q.skip_zeros-w.ensures.before

-- its low is below high
below-Else-w-end : (c : goal.Else-w-end)
    → word_low c.args.word c.args.low c.skip_zeros-w.result < c.args.high
below-Else-w-end c = words_low c.requires (found-Else-w-end c) c.if-w-end.false

-- its low is below high
below-After-shared_slice_known-in-loop-w-1 : (c : goal.After-shared_slice_known-in-loop-w-1)
    → word_low c.args.word c.args.low c.skip_zeros-w.result < c.args.high
below-After-shared_slice_known-in-loop-w-1 c = words_low c.requires (found-After-shared_slice_known-in-loop-w-1 c) c.if-w-end.false

pub overflow_sub-end : goal.overflow_sub-end
overflow_sub-end c = c.requires.room.within

pub overflow_add-end : goal.overflow_add-end
overflow_add-end c = omega (arith, c.requires.room.small)

pub overflow_add-end-2 : goal.overflow_add-end-2
overflow_add-end-2 c = let h = c.requires.stored in search rules

pub loop-w-init : goal.loop-w-init
loop-w-init c = (refl, words_none c.requires)

pub skip_zeros-w-requires : goal.skip_zeros-w-requires
skip_zeros-w-requires c = (c.loop-w.invariant.1.upto, c.requires.stored)

pub returns-then-w-end : goal.returns-then-w-end
returns-then-w-end c = words_end c.requires (found-Then-w-end c) c.if-w-end.true

pub overflow_sub-r : goal.overflow_sub-r
overflow_sub-r c = (found-Else-w-end c).from

pub overflow_mul-r : goal.overflow_mul-r
overflow_mul-r c = omega (arith, below-Else-w-end c, c.requires.room.small)

pub overflow_add-r : goal.overflow_add-r
overflow_add-r c = omega (arith, below-Else-w-end c, c.requires.room.small)

pub offset_bounds-words-w : goal.offset_bounds-words-w
offset_bounds-words-w c = let h = c.requires.stored in search rules

pub bounds-words-w : goal.bounds-words-w
bounds-words-w c = omega (arith, c.if-w-end.false, c.requires.stored)

pub numbers_end-requires : goal.numbers_end-requires
numbers_end-requires c = let h = below-After-shared_slice_known-in-loop-w-1 c in
    (c.requires.room.small, omega (arith, h), omega arith)

pub list_word-count-requires : goal.list_word-count-requires
list_word-count-requires c = words_room c.requires (found-After-list_word-arg-1 c) c.if-w-end.false c.numbers_end.ensures c.loop-w.invariant.0

pub loop-w-preserved : goal.loop-w-preserved
loop-w-preserved c = (
  c.list_word-count.auto.list ∙ c.loop-w.invariant.0,
  words_more c.requires (found-After-slice_known-in-loop-w-1 c) c.if-w-end.false c.numbers_end.ensures c.list_word-count.ensures,
)

pub returns : goal.returns
returns c = words_end c.requires c.loop-w.invariant.1 c.loop-w-test.false
