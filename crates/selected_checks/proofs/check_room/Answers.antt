use Prim.Native.Nat.{ℕ, ◌≤◌, ◌<◌, min}
use native.Mathlib.Omega.{arith}
use mathlib.Core.Path.{◌≡◌, sym, ap, subst, ◌∙◌}
use mathlib.Core.Bool.{true, false}
use lib.Dec.{ltb}
use borrow.Author.Tests.{lt-ltb, le-ltb}
use Rattle.refusal.proofs.Steps.{first_hit, first_skip, first_end}
use Rattle.pairs.specs.Pair.{pair_total}
use Rattle.selection.specs.Selection.{room_steps}
use Rattle.selected_checks.proofs.check_room.Goals as goal

-- a length against a number that is computed
short : (a k m : ℕ) → k ≡ m → a < k → ltb a m ≡ true
short a k m e h = lt-ltb a m (subst (λ (j : ℕ). a < j) e h)

enough : (a k m : ℕ) → k ≡ m → k ≤ a → ltb a m ≡ false
enough a k m e h = le-ltb a m (subst (λ (j : ℕ). j ≤ a) e h)

-- T and min(limit, T), as the code has them
total-Then-result_rows-most : (c : goal.Then-result_rows-most) → c.pair_total-total.result ≡ pair_total c.args.n
total-Then-result_rows-most c = c.pair_total-total.ensures.0

-- T and min(limit, T), as the code has them
total-Then-result_values-most : (c : goal.Then-result_values-most) → c.pair_total-total.result ≡ pair_total c.args.n
total-Then-result_values-most c = c.pair_total-total.ensures.0

-- T and min(limit, T), as the code has them
total-Then-scratch-scratch_words : (c : goal.Then-scratch-scratch_words) → c.pair_total-total.result ≡ pair_total c.args.n
total-Then-scratch-scratch_words c = c.pair_total-total.ensures.0

-- T and min(limit, T), as the code has them
total-Else-scratch-scratch_words : (c : goal.Else-scratch-scratch_words) → c.pair_total-total.result ≡ pair_total c.args.n
total-Else-scratch-scratch_words c = c.pair_total-total.ensures.0

most-Then-result_rows-most : (c : goal.Then-result_rows-most) → c.min-most.result ≡ min c.args.limit (pair_total c.args.n)
most-Then-result_rows-most c = c.min-most.ensures ∙ ap (min c.args.limit) (total-Then-result_rows-most c)

most-Then-result_values-most : (c : goal.Then-result_values-most) → c.min-most.result ≡ min c.args.limit (pair_total c.args.n)
most-Then-result_values-most c = c.min-most.ensures ∙ ap (min c.args.limit) (total-Then-result_values-most c)

most-Then-scratch-scratch_words : (c : goal.Then-scratch-scratch_words) → c.min-most.result ≡ min c.args.limit (pair_total c.args.n)
most-Then-scratch-scratch_words c = c.min-most.ensures ∙ ap (min c.args.limit) (total-Then-scratch-scratch_words c)

most-Else-scratch-scratch_words : (c : goal.Else-scratch-scratch_words) → c.min-most.result ≡ min c.args.limit (pair_total c.args.n)
most-Else-scratch-scratch_words c = c.min-most.ensures ∙ ap (min c.args.limit) (total-Else-scratch-scratch_words c)

pub overflow_add-n : goal.overflow_add-n
overflow_add-n c = omega (arith, c.requires)

pub returns-then-result_starts-n : goal.returns-then-result_starts-n
unfolding room_steps
returns-then-result_starts-n c = sym (first_hit 7 _ tt (lt-ltb _ _ c.if-result_starts-n.true))

pub returns-then-result_rows-most : goal.returns-then-result_rows-most
unfolding room_steps
returns-then-result_rows-most c = sym (first_skip 7 _ tt (le-ltb _ _ c.if-result_starts-n.false) (first_hit 7 _ tt (short _ _ _ (most-Then-result_rows-most c) c.if-result_rows-most.true)))

pub returns-then-result_values-most : goal.returns-then-result_values-most
unfolding room_steps
returns-then-result_values-most c = sym
    (first_skip 7 _ tt (le-ltb _ _ c.if-result_starts-n.false)
    (first_skip 7 _ tt (enough _ _ _ (most-Then-result_values-most c) c.if-result_rows-most.false)
    (first_hit 7 _ tt (short _ _ _ (most-Then-result_values-most c) c.if-result_values-most.true))))

pub returns-then-scratch-scratch_words : goal.returns-then-scratch-scratch_words
unfolding room_steps
returns-then-scratch-scratch_words c = sym
    (first_skip 7 _ tt (le-ltb _ _ c.if-result_starts-n.false)
    (first_skip 7 _ tt (enough _ _ _ (most-Then-scratch-scratch_words c) c.if-result_rows-most.false)
    (first_skip 7 _ tt (enough _ _ _ (most-Then-scratch-scratch_words c) c.if-result_values-most.false)
    (first_hit 7 _ tt (short _ _ _ c.scratch_words.ensures c.if-scratch-scratch_words.true)))))

pub returns : goal.returns
unfolding room_steps
returns c = sym
    (first_skip 7 _ tt (le-ltb _ _ c.if-result_starts-n.false)
    (first_skip 7 _ tt (enough _ _ _ (most-Else-scratch-scratch_words c) c.if-result_rows-most.false)
    (first_skip 7 _ tt (enough _ _ _ (most-Else-scratch-scratch_words c) c.if-result_values-most.false)
    (first_skip 7 _ tt (enough _ _ _ c.scratch_words.ensures c.if-scratch-scratch_words.false) (first_end tt)))))
