use Prim.Native.Nat.{◌^◌}
use native.Mathlib.Omega.{arith}
use mathlib.Core.Path.{◌≡◌, refl, ap, sym, ◌∙◌}
use mathlib.Core.Bool.{Bool, cond}
use lib.Dec.{lit≤}
use lib.IntN.{ℤ, pos, neg_ℤ, ◌-ℤ◌, +ℤ_idl}
use mir.Syntax.{w64}
use mir.Val.{SFits, to_z, of_z}
use mir.ValLaws.{to_z-of_z}
use borrow.Author.Tests.{eq-eqb, ne_eqb}
use Rattle.integers.specs.Size.{SizeWithin}
use Rattle.integers.proofs.Size.{size_minus}
use Rattle.whole_steps.specs.Machine.{fits_both}
use Rattle.whole_route.proofs.last_step.Goals as goal

back-Then-i-j : (s : goal.Then-i-j) → to_z w64 (of_z w64 s.args.sum) ≡ s.args.sum
back-Then-i-j s = to_z-of_z w64 s.args.sum s.ranges.sum

back-After-minus : (s : goal.After-minus) → to_z w64 (of_z w64 s.args.sum) ≡ s.args.sum
back-After-minus s = to_z-of_z w64 s.args.sum s.ranges.sum

back-Else-i-j : (s : goal.Else-i-j) → to_z w64 (of_z w64 s.args.sum) ≡ s.args.sum
back-Else-i-j s = to_z-of_z w64 s.args.sum s.ranges.sum

back-After-minus-2 : (s : goal.After-minus-2) → to_z w64 (of_z w64 s.args.sum) ≡ s.args.sum
back-After-minus-2 s = to_z-of_z w64 s.args.sum s.ranges.sum

-- 1 or 0 less a small number fits
fits-Then-i-j : (s : goal.Then-i-j) (a : ℤ) → SizeWithin 1 a → SFits w64 (a -ℤ to_z w64 (of_z w64 s.args.sum))
fits-Then-i-j s a h =
    fits_both ◌-ℤ◌ {x = a} {y = to_z w64 (of_z w64 s.args.sum)} {a = a} {b = s.args.sum} refl (back-Then-i-j s) (lit≤ tt)
    (size_minus {a = a} {b = s.args.sum} {k = 1} {l = 2 ^ 53} h (record { size = s.requires }))

-- 1 or 0 less a small number fits
fits-Else-i-j : (s : goal.Else-i-j) (a : ℤ) → SizeWithin 1 a → SFits w64 (a -ℤ to_z w64 (of_z w64 s.args.sum))
fits-Else-i-j s a h =
    fits_both ◌-ℤ◌ {x = a} {y = to_z w64 (of_z w64 s.args.sum)} {a = a} {b = s.args.sum} refl (back-Else-i-j s) (lit≤ tt)
    (size_minus {a = a} {b = s.args.sum} {k = 1} {l = 2 ^ 53} h (record { size = s.requires }))

pub minus-requires : goal.minus-requires
minus-requires c = fits-Then-i-j c (pos 1) (record { size = omega arith })

pub returns-then-i-j : goal.returns-then-i-j
returns-then-i-j c = let a = c.args in
    to_z-of_z w64 c.minus.result (record { sfits = c.minus.type_inv }) ∙ c.minus.ensures
    ∙ ap (λ (z : ℤ). pos 1 -ℤ z) (back-After-minus c)
    ∙ sym (ap (λ (b : Bool). cond b (pos 1 -ℤ a.sum) (neg_ℤ a.sum)) (eq-eqb a.i a.j c.if-i-j.true))

pub minus-requires-2 : goal.minus-requires-2
minus-requires-2 c = fits-Else-i-j c (pos 0) (record { size = omega arith })

pub returns : goal.returns
returns c = let a = c.args in
    to_z-of_z w64 c.minus-2.result (record { sfits = c.minus-2.type_inv }) ∙ c.minus-2.ensures
    ∙ +ℤ_idl (neg_ℤ (to_z w64 (of_z w64 a.sum))) ∙ ap neg_ℤ (back-After-minus-2 c)
    ∙ sym (ap (λ (b : Bool). cond b (pos 1 -ℤ a.sum) (neg_ℤ a.sum)) (ne_eqb a.i a.j c.if-i-j.false))
