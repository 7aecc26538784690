use Rattle.pairs.specs.Pair.{pair_total}
use Rattle.pairs.proofs.Pair.{pair_total_small}
use Rattle.pairs.specs.Scratch.{packed}
use Rattle.pairs.proofs.Scratch.{queue_start_small}
use Rattle.bits.specs.Bits.{bit_at}
use Rattle.marked_pairs.specs.MarkedPairs.{Inserted}
use Rattle.marked_pairs.proofs.InsertLaws.{place_word, insert_old, insert_new, end_room}
use mathlib.Core.List.{List}
use native.Mathlib.Omega.{arith}
use Prim.Native.Nat.{ℕ, ◌<◌, ◌-◌, ◌+◌, ◌/◌}
use mathlib.Core.Path.{ap, sym, subst₂, ◌∙◌}
use lib.ListN.{length, set, length-set}
use Rattle.marked_pairs.proofs.insert_ordered_pair.Goals as goal

-- the place's word is within the scratch
in_words-After-column_place-p : (c : goal.After-column_place-p) → c.column_place-p.result / 32 < length c.args.scratch.now
in_words-After-column_place-p c =
    place_word c.args.n c.args.r c.args.c c.requires.0 c.requires.1.first c.args.scratch.now c.requires.1.marked.room c.column_place-p.ensures

-- the place's word is within the scratch
in_words-After-set_bit-arg-1 : (c : goal.After-set_bit-arg-1) → c.column_place-p.result / 32 < length c.args.scratch.now
in_words-After-set_bit-arg-1 c =
    place_word c.args.n c.args.r c.args.c c.requires.0 c.requires.1.first c.args.scratch.now c.requires.1.marked.room c.column_place-p.ensures

-- a word is left for it
left : (c : goal.After-queue_start) → c.args.count < pair_total c.args.n
left c =
    end_room c.args.n c.args.r c.args.c (omega arith) (omega arith) c.requires.1.small c.requires.0 c.requires.1.first c.requires.1.marked c.column_place-p.ensures
    (sym c.bit.ensures ∙ c.if-bit.false)

-- src/lib.rt:41:8
pub bit-requires : goal.bit-requires
bit-requires c = in_words-After-column_place-p c

-- src/lib.rt:42:9
pub returns-then-bit : goal.returns-then-bit
returns-then-bit c = insert_old _ _ _ (omega arith) (omega arith) c.requires.0 c.requires.1.first c.requires.1.marked
    (ap (bit_at c.args.scratch.now) (sym c.column_place-p.ensures) ∙ sym c.bit.ensures ∙ c.if-bit.true)

-- src/lib.rt:44:5
pub set_bit-requires : goal.set_bit-requires
set_bit-requires c = in_words-After-set_bit-arg-1 c

-- src/lib.rt:45:15
pub overflow_add-end : goal.overflow_add-end
overflow_add-end c = omega (arith, left c, c.queue_start.ensures.0, queue_start_small c.args.n c.requires.1.small, pair_total_small c.args.n c.requires.1.small)

-- src/lib.rt:47:5
pub offset_bounds-scratch-end : goal.offset_bounds-scratch-end
offset_bounds-scratch-end c = omega (arith, left c, c.queue_start.ensures.0, queue_start_small c.args.n c.requires.1.small, pair_total_small c.args.n c.requires.1.small)

-- src/lib.rt:47:5
pub bounds-scratch-end : goal.bounds-scratch-end
bounds-scratch-end c = rw (c.set_bit.ensures, length-set) (omega (arith, left c, c.queue_start.ensures.0, c.requires.1.marked.room))

-- src/lib.rt:48:5
pub overflow_add-result : goal.overflow_add-result
overflow_add-result c = omega (arith, left c, pair_total_small c.args.n c.requires.1.small)

-- src/lib.rt:36:1
pub returns : goal.returns
returns c = let a = c.args in
    subst₂ (λ (w : List ℕ) (t : ℕ). Inserted a.n a.r a.c a.scratch.now a.count (set w (t + a.count) (packed a.r a.c)) (a.count + 1))
    (sym c.set_bit.ensures) (sym c.queue_start.ensures.0)
    (insert_new a.n a.r a.c (omega arith) (omega arith) c.requires.1.small c.requires.0 c.requires.1.first c.requires.1.marked c.column_place-p.ensures
    (sym c.bit.ensures ∙ c.if-bit.false))
