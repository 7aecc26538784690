use Prim.Native.Nat.{◌<◌}
use native.Mathlib.Omega.{arith}
use mathlib.Core.Path.{refl, ◌∙◌}
use lib.ListN.{length, length-set}
use borrow.Author.Rules.{rules}
use Rattle.set_bits.proofs.WordLaws.{word_none, word_end, word_stop, word_room, word_more}
use Rattle.set_bits.proofs.word_numbers.list_word.Goals as goal

-- there is room for the low
room : (c : goal.Else-r-end) → c.loop-w.count < length c.args.list.now
room c = word_room c.loop-w.invariant.1 c.lowest_bit-z.ensures c.requires c.if-r-end.false

pub loop-w-init : goal.loop-w-init
loop-w-init c = (refl, word_none c.requires)

pub overflow_add-r : goal.overflow_add-r
overflow_add-r c = omega (arith, c.lowest_bit-z.ensures.inside, c.loop-w.invariant.1.upto, c.requires.small)

pub returns-then-r-end : goal.returns-then-r-end
returns-then-r-end c = word_stop c.loop-w.invariant.1 c.lowest_bit-z.ensures c.if-r-end.true

pub offset_bounds-list-count : goal.offset_bounds-list-count
offset_bounds-list-count c = let h = room c in search rules

pub bounds-list-count : goal.bounds-list-count
bounds-list-count c = omega (arith, room c, c.loop-w.invariant.0)

pub overflow_add-count : goal.overflow_add-count
overflow_add-count c = let h = room c in search rules

pub loop-w-preserved : goal.loop-w-preserved
loop-w-preserved c = let l = c.loop-w in
    (length-set l.list l.count _ ∙ l.invariant.0, word_more l.invariant.1 c.lowest_bit-z.ensures c.if-r-end.false (room c))

pub returns : goal.returns
returns c = word_end c.loop-w.invariant.1 c.loop-w-test.false
