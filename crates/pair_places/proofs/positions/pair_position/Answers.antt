use Prim.Native.Nat.{ℕ, ◌+◌}
use native.Mathlib.Omega.{arith}
use mathlib.Core.Path.{◌≡◌, ap, ◌∙◌}
use lib.ListN.{get_or}
use Rattle.pairs.specs.Positions.{position_word}
use Rattle.pair_places.specs.Position.{word_right, word_left, shift_fits, word_inside}
use Rattle.pair_places.proofs.positions.pair_position.Goals as goal

-- the word, from the base of column i
upper-word-Then-i-k : (t : goal.Then-i-k) → let a = t.args in a.base + a.k ≡ position_word a.n a.i a.k
upper-word-Then-i-k t =
    let a = t.args in
    word_left a.n a.base a.i a.k t.requires.1 (omega (arith, t.if-i-k.true))

-- the word, from the base of column i
upper-word-After-at : (t : goal.After-at) → let a = t.args in a.base + a.k ≡ position_word a.n a.i a.k
upper-word-After-at t =
    let a = t.args in
    word_left a.n a.base a.i a.k t.requires.1 (omega (arith, t.if-i-k.true))

-- and from that of column k
lower_word-After-column_shift : (d : goal.After-column_shift) → let a = d.args in a.positions + d.column_shift.result + a.i ≡ position_word a.n a.i a.k
lower_word-After-column_shift d =
    let a = d.args in
    word_right a.n (a.positions + d.column_shift.result) a.i a.k (omega (arith, d.requires.0, d.column_shift.ensures))
    (omega (arith, d.if-i-k.false))

-- and from that of column k
lower_word-After-at-2 : (d : goal.After-at-2) → let a = d.args in a.positions + d.column_shift.result + a.i ≡ position_word a.n a.i a.k
lower_word-After-at-2 d =
    let a = d.args in
    word_right a.n (a.positions + d.column_shift.result) a.i a.k (omega (arith, d.requires.0, d.column_shift.ensures))
    (omega (arith, d.if-i-k.false))

pub overflow_add-base : goal.overflow_add-base
overflow_add-base c = omega (arith, upper-word-Then-i-k c, word_inside c.requires.2)

pub at-requires : goal.at-requires
at-requires c = omega (arith, upper-word-Then-i-k c, word_inside c.requires.2)

pub returns-then-i-k : goal.returns-then-i-k
returns-then-i-k c = c.at.ensures ∙ ap (λ (w : ℕ). get_or c.args.scratch.now w 0) (upper-word-After-at c)

pub overflow_add-other : goal.overflow_add-other
overflow_add-other c = let a = c.args in
    omega (arith, c.requires.0, shift_fits a.n a.k c.column_shift.result c.requires.2.small c.requires.2.right c.column_shift.ensures)

pub overflow_add-other-2 : goal.overflow_add-other-2
overflow_add-other-2 c = omega (arith, lower_word-After-column_shift c, word_inside c.requires.2)

pub at-requires-2 : goal.at-requires-2
at-requires-2 c = omega (arith, lower_word-After-column_shift c, word_inside c.requires.2)

pub returns : goal.returns
returns c = c.at-2.ensures ∙ ap (λ (w : ℕ). get_or c.args.scratch.now w 0) (lower_word-After-at-2 c)
