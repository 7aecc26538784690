use Prim.Native.Nat.{◌+◌, ◌^◌, ◌<◌}
use native.Mathlib.Omega.{arith}
use mathlib.Core.Path.{◌≡◌, sym, ap, subst, ◌∙◌}
use mathlib.Core.Bool.{true}
use lib.Dec.{T}
use lib.IntN.{ℤ, pos, negsuc, nat_abs, ◌-ℤ◌}
use lib.Signed.{mag, lt_z, non_neg}
use mir.Syntax.{w64}
use mir.Val.{Fits, SFits, to_z, of_z}
use mir.ValLaws.{to_z-of_z}
use Rattle.integers.proofs.Size.{below_zero, not_below_zero}
use Rattle.whole_steps.proofs.size.Goals as goal

-- -1 - x for x below 0
is : (x : ℤ) → SFits w64 x → lt_z (to_z w64 (of_z w64 x)) (pos 0) ≡ true → (negsuc 0 -ℤ to_z w64 (of_z w64 x) ≡ pos (mag x)) × (nat_abs x ≡ mag x + 1)
is x f t =
    let b = to_z-of_z w64 x f in
    let z = below_zero x (sym (ap (λ (y : ℤ). lt_z y (pos 0)) b) ∙ t) in
    (ap (λ (y : ℤ). negsuc 0 -ℤ y) b ∙ z.0, z.1)

fits : (x : ℤ) → SFits w64 x → lt_z (to_z w64 (of_z w64 x)) (pos 0) ≡ true → SFits w64 (negsuc 0 -ℤ to_z w64 (of_z w64 x))
fits x f t = subst (SFits w64) (sym (is x f t).0) (record { sfits = f.sfits })

back : (x : ℤ) → SFits w64 x → lt_z (to_z w64 (of_z w64 x)) (pos 0) ≡ true → to_z w64 (of_z w64 (negsuc 0 -ℤ to_z w64 (of_z w64 x))) ≡ pos (mag x)
back x f t = to_z-of_z w64 _ (fits x f t) ∙ (is x f t).0

pub overflow_sub-y : goal.overflow_sub-y
overflow_sub-y c = fits c.args.z c.ranges.z c.if-z-lt0.true

pub overflow_cast-result : goal.overflow_cast-result
overflow_cast-result c = let b = back c.args.z c.ranges.z c.if-z-lt0.true in
    let f : mag c.args.z < 2 ^ 63 = c.ranges.z.sfits in
    (subst (λ (z : ℤ). T (non_neg z)) (sym b) tt, subst (λ (z : ℤ). Fits w64 (nat_abs z)) (sym b) (record { fits = omega arith }))

pub overflow_add-result : goal.overflow_add-result
overflow_add-result c = let b = back c.args.z c.ranges.z c.if-z-lt0.true in
    let f : mag c.args.z < 2 ^ 63 = c.ranges.z.sfits in
    subst (λ (z : ℤ). Fits w64 (nat_abs z + 1)) (sym b) (record { fits = omega arith })

pub returns-then-z-lt0 : goal.returns-then-z-lt0
returns-then-z-lt0 c = ap (λ (z : ℤ). nat_abs z + 1) (back c.args.z c.ranges.z c.if-z-lt0.true) ∙ sym (is c.args.z c.ranges.z c.if-z-lt0.true).1

pub overflow_cast-result-2 : goal.overflow_cast-result-2
overflow_cast-result-2 c = let b = to_z-of_z w64 c.args.z c.ranges.z in
    let e = b ∙ not_below_zero c.args.z (sym (ap (λ (y : ℤ). lt_z y (pos 0)) b) ∙ c.if-z-lt0.false) in
    let f : mag (to_z w64 (of_z w64 c.args.z)) < 2 ^ 63 = subst (λ (z : ℤ). mag z < 2 ^ 63) (sym b) c.ranges.z.sfits in
    let g : nat_abs c.args.z < 2 ^ 63 = subst (λ (z : ℤ). mag z < 2 ^ 63) e f in
    (subst (λ (z : ℤ). T (non_neg z)) (sym e) tt, subst (λ (z : ℤ). Fits w64 (nat_abs z)) (sym e) (record { fits = omega arith }))
