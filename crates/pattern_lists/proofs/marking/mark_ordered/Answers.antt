use Prim.Native.Nat.{ℕ, min, max}
use native.Mathlib.Omega.{arith}
use mathlib.Core.Path.{◌≡◌, subst₂}
use Rattle.pairs.specs.Marks.{Added, single}
use Rattle.pattern_lists.proofs.marking.mark_ordered.Goals as goal

pub mark_pair-requires : goal.mark_pair-requires
mark_pair-requires c = let P = c.requires in
    record { ordered = omega (arith, c.if-x-y.true); small = P.second_small; inside = P.above (omega (arith, c.if-x-y.true)) }

pub returns-then-x-y : goal.returns-then-x-y
returns-then-x-y c = let a = c.args in
    let big : a.y ≡ max a.x a.y = omega (arith, c.if-x-y.true) in
    let low : a.x ≡ min a.x a.y = omega (arith, c.if-x-y.true) in
    subst₂ (λ (p q : ℕ). Added (single p q) a.marks.now c.mark_pair.new.marks) big low c.mark_pair.ensures

pub mark_pair-requires-2 : goal.mark_pair-requires-2
mark_pair-requires-2 c = let P = c.requires in
    record { ordered = c.if-x-y.false; small = P.first_small; inside = P.below c.if-x-y.false }

pub returns : goal.returns
returns c = let a = c.args in
    let big : a.x ≡ max a.x a.y = omega (arith, c.if-x-y.false) in
    let low : a.y ≡ min a.x a.y = omega (arith, c.if-x-y.false) in
    subst₂ (λ (p q : ℕ). Added (single p q) a.marks.now c.mark_pair-2.new.marks) big low c.mark_pair-2.ensures
