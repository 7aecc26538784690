use native.Mathlib.Omega.{arith}
use mathlib.Core.Path.{◌≡◌, ap, ◌∙◌}
use mathlib.Core.List.{◌++◌}
use Prim.Native.Nat.{ℕ, ◌-◌}
use lib.ListN.{length, take, drop}
use lib.Seq.{length-take-le}
use Rattle.pairs.specs.Scratch.{mark_words}
use Rattle.pattern_lists.proofs.PatternLists.{scratch_short, scratch_part}
use Rattle.pattern_lists.proofs.listing.operator_lists.Goals as goal

-- the marks' words, and the part's length
words-After-list_operator-arg-3-1 : (c : goal.After-list_operator-arg-3-1) → c.mark_words-words.result - 0 ≡ mark_words c.args.n
words-After-list_operator-arg-3-1 c = omega (arith, c.mark_words-words.ensures.0)

-- the marks' words, and the part's length
words-After-slice_known-6-1 : (c : goal.After-slice_known-6-1) → c.mark_words-words.result - 0 ≡ mark_words c.args.n
words-After-slice_known-6-1 c = omega (arith, c.mark_words-words.ensures.0)

pub returns-then-scratch-words : goal.returns-then-scratch-words
returns-then-scratch-words c = let a = c.args in
    scratch_short a.n _ a.scratch.now a.pair_rows.now a.pair_columns.now (omega (arith, c.if-scratch-words.true, c.mark_words-words.ensures.0))

pub list_operator-requires : goal.list_operator-requires
list_operator-requires c = record { operator_rows = c.requires.operator_rows; n_le_max_dimension = (c.requires.n_le_max_dimension, ap (λ (k : ℕ). length (take k c.args.scratch.now)) (words-After-list_operator-arg-3-1 c) ∙ length-take-le (mark_words c.args.n) c.args.scratch.now (omega (arith, c.if-scratch-words.false, words-After-list_operator-arg-3-1 c))) }

pub returns : goal.returns
returns c = let a = c.args in
    scratch_part a.n _ a.scratch.now a.pair_rows.now a.pair_columns.now (omega (arith, c.if-scratch-words.false, words-After-slice_known-6-1 c))
    (ap (λ (k : ℕ). take k a.scratch.now) (words-After-slice_known-6-1 c))
    (ap (λ (k : ℕ). c.list_operator.new.marks ++ drop k a.scratch.now) (words-After-slice_known-6-1 c))
    c.list_operator.ensures
