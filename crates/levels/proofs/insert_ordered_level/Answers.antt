use borrow.Author.Rules.{rules}
use native.Mathlib.Omega.{arith}
use Prim.Native.Nat.{ℕ, ◌<◌, ◌+◌}
use mathlib.Core.Path.{◌≡◌, ap, sym, ◌∙◌}
use lib.ListN.{length, get_or}
use lib.ListN.{set, length-set}
use mathlib.Core.Path.{subst₂}
use Rattle.pairs.specs.Pair.{pair_total, ordered}
use Rattle.pairs.proofs.Pair.{pair_total_small}
use Rattle.pairs.specs.Scratch.{packed}
use Rattle.pairs.proofs.ColumnOrder.{column_place_below}
use Rattle.levels.specs.Levels.{level_word, Raised}
use Rattle.levels.proofs.InsertLaws.{insert_old, insert_new, end_room}
use Rattle.levels.proofs.insert_ordered_level.Goals as goal

positive : {w : ℕ} → (w ≡ 0 → ⊥) → 0 < w
positive h = omega arith

-- the pair's word is within the scratch
place-After-column_place-p : (c : goal.After-column_place-p) → c.column_place-p.result < pair_total c.args.n
place-After-column_place-p c =
    omega (arith, c.column_place-p.ensures, column_place_below c.args.n c.args.r c.args.c c.requires.0 c.requires.1.first)

-- the pair's word is within the scratch
place-After-slice_known-2-1-unread : (c : goal.After-slice_known-2-1-unread) → c.column_place-p.result < pair_total c.args.n
place-After-slice_known-2-1-unread c =
    omega (arith, c.column_place-p.ensures, column_place_below c.args.n c.args.r c.args.c c.requires.0 c.requires.1.first)

-- the pair's word is within the scratch
place-Else-scratch-p-ne0 : (c : goal.Else-scratch-p-ne0) → c.column_place-p.result < pair_total c.args.n
place-Else-scratch-p-ne0 c =
    omega (arith, c.column_place-p.ensures, column_place_below c.args.n c.args.r c.args.c c.requires.0 c.requires.1.first)

in_words-After-column_place-p : (c : goal.After-column_place-p) → c.column_place-p.result < length c.args.scratch.now
in_words-After-column_place-p c = omega (arith, place-After-column_place-p c, c.requires.1.levels.room)

in_words-After-slice_known-2-1-unread : (c : goal.After-slice_known-2-1-unread) → c.column_place-p.result < length c.args.scratch.now
in_words-After-slice_known-2-1-unread c = omega (arith, place-After-slice_known-2-1-unread c, c.requires.1.levels.room)

in_words-Else-scratch-p-ne0 : (c : goal.Else-scratch-p-ne0) → c.column_place-p.result < length c.args.scratch.now
in_words-Else-scratch-p-ne0 c = omega (arith, place-Else-scratch-p-ne0 c, c.requires.1.levels.room)

none : (b : goal.After-pair_total) → level_word b.args.n b.args.scratch.now b.args.r b.args.c ≡ 0
none b = ap (λ (k : ℕ). get_or b.args.scratch.now k 0) (sym b.column_place-p.ensures) ∙ b.if-scratch-p-ne0.false

-- a word is left for it
left : (b : goal.After-pair_total) → b.args.count < pair_total b.args.n
left b =
    end_room b.args.n b.args.r b.args.c b.args.level b.requires.0 b.requires.1.first b.requires.1.small b.requires.1.positive b.requires.1.levels (none b)

pub offset_bounds-scratch-p : goal.offset_bounds-scratch-p
offset_bounds-scratch-p c = let h = in_words-After-column_place-p c in
    search rules

pub bounds-scratch-p : goal.bounds-scratch-p
bounds-scratch-p c = in_words-After-slice_known-2-1-unread c

pub returns-then-scratch-p-ne0 : goal.returns-then-scratch-p-ne0
returns-then-scratch-p-ne0 c = let w : 0 < level_word c.args.n c.args.scratch.now c.args.r c.args.c =
    positive (λ e. c.if-scratch-p-ne0.true (ap (λ (k : ℕ). get_or c.args.scratch.now k 0) c.column_place-p.ensures ∙ e)) in
    insert_old c.args.n c.args.r c.args.c c.args.level c.requires.0 c.requires.1.first c.requires.1.levels w

pub offset_bounds-scratch-p-2 : goal.offset_bounds-scratch-p-2
offset_bounds-scratch-p-2 c = let h = in_words-Else-scratch-p-ne0 c in
    search rules

pub bounds-scratch-p-2 : goal.bounds-scratch-p-2
bounds-scratch-p-2 c = in_words-Else-scratch-p-ne0 c

pub overflow_add-end : goal.overflow_add-end
overflow_add-end c = omega (arith, left c, c.pair_total.ensures.0, pair_total_small c.args.n c.requires.1.small)

pub offset_bounds-scratch-end : goal.offset_bounds-scratch-end
offset_bounds-scratch-end c = omega (arith, left c, c.pair_total.ensures.0, pair_total_small c.args.n c.requires.1.small)

pub bounds-scratch-end : goal.bounds-scratch-end
bounds-scratch-end c = rw length-set (omega (arith, left c, c.pair_total.ensures.0, c.requires.1.levels.room))

pub overflow_add-result : goal.overflow_add-result
overflow_add-result c = omega (arith, left c, pair_total_small c.args.n c.requires.1.small)

pub returns : goal.returns
returns c = let a = c.args in
    subst₂ (λ (q t : ℕ). Raised a.n a.level (ordered a.r a.c) a.scratch.now a.count (set (set a.scratch.now q a.level) (t + a.count) (packed a.r a.c)) (a.count + 1))
    (sym c.column_place-p.ensures) (sym c.pair_total.ensures.0)
    (insert_new a.n a.r a.c a.level c.requires.0 c.requires.1.first c.requires.1.small c.requires.1.positive c.requires.1.levels (none c))
