use Rattle.columns.specs.Columns.{value}
use borrow.Author.Rules.{rules}
use native.Mathlib.Omega.{arith}
use Prim.Native.Nat.{ℕ, ◌+◌, ◌<◌}
use mathlib.Core.Path.{◌≡◌, ap, ap₂, ◌∙◌}
use lib.ListN.{length, get_or}
use lib.Ieee.{Float, binary64, nan, add, mul}
use Rattle.closure_route.proofs.sums.sum_rows.Goals as goal

-- the word is there, and its position
word-After-at : (c : goal.After-at) →
    let a = c.args in
    (a.base + c.at.result < length a.scratch.now) × (get_or a.scratch.now (a.base + c.at.result) 0 < length a.result_values.now)
word-After-at c =
    let l = c.loop-p in
    rw c.at.ensures (c.requires.words l.p l.auto.p c.loop-p-test.true)

-- the word is there, and its position
word-After-shared_slice_known-in-loop-p-1 : (c : goal.After-shared_slice_known-in-loop-p-1) →
    let a = c.args in
    (a.base + c.at.result < length a.scratch.now) × (get_or a.scratch.now (a.base + c.at.result) 0 < length a.result_values.now)
word-After-shared_slice_known-in-loop-p-1 c =
    let l = c.loop-p in
    rw c.at.ensures (c.requires.words l.p l.auto.p c.loop-p-test.true)

-- the word is there, and its position
word-After-shared_slice_known-in-loop-p-2-1 : (c : goal.After-shared_slice_known-in-loop-p-2-1) →
    let a = c.args in
    (a.base + c.at.result < length a.scratch.now) × (get_or a.scratch.now (a.base + c.at.result) 0 < length a.result_values.now)
word-After-shared_slice_known-in-loop-p-2-1 c =
    let l = c.loop-p in
    rw c.at.ensures (c.requires.words l.p l.auto.p c.loop-p-test.true)

-- the entry is there
inside-After-shared_slice_known-in-loop-p-1 : (c : goal.After-shared_slice_known-in-loop-p-1) → c.at-position.result < length c.args.result_values.now
inside-After-shared_slice_known-in-loop-p-1 c = omega (arith, c.at-position.ensures, (word-After-shared_slice_known-in-loop-p-1 c).1)

-- the entry is there
inside-After-shared_slice_known-in-loop-p-2-1 : (c : goal.After-shared_slice_known-in-loop-p-2-1) → c.at-position.result < length c.args.result_values.now
inside-After-shared_slice_known-in-loop-p-2-1 c = omega (arith, c.at-position.ensures, (word-After-shared_slice_known-in-loop-p-2-1 c).1)

pub loop-p-init : goal.loop-p-init
loop-p-init c = λ f b s. b

pub overflow_add-base : goal.overflow_add-base
overflow_add-base c = let l = (word-After-at c).0 in search rules

pub at-position-requires : goal.at-position-requires
at-position-requires c = (word-After-at c).0

pub offset_bounds-result_values-position : goal.offset_bounds-result_values-position
offset_bounds-result_values-position c = let l = inside-After-shared_slice_known-in-loop-p-1 c in search rules

pub bounds-result_values-position : goal.bounds-result_values-position
bounds-result_values-position c = inside-After-shared_slice_known-in-loop-p-2-1 c

pub loop-p-preserved : goal.loop-p-preserved
loop-p-preserved c = let l = c.loop-p in
    let a = c.args in
    λ f b s.
    ap₂ (λ (x : Float) (k : ℕ). add binary64 x (mul binary64 (value a.values.now l.p) (get_or a.result_values.now k nan)))
    (l.invariant f b (λ p lo hi. s p lo (omega arith)))
    (c.at-position.ensures ∙ ap (λ (k : ℕ). get_or a.scratch.now (a.base + k) 0) c.at.ensures)
    ∙ s l.p l.auto.p (omega arith)

pub returns : goal.returns
returns c = let l = c.loop-p in
    let e : l.p ≡ c.args.e = omega arith in
    rw e at l.invariant
