use Prim.Native.Nat.{ℕ, zero, suc, ◌*◌, ◌^◌, ◌≤◌, ◌%◌}
use native.Mathlib.Nat.{zero-mul, mul-le-mul_right}
use native.Mathlib.Omega.{arith}
use mathlib.Core.Bool.{Bool, true, false, cond, ◌||◌, or-false, true≢false}
use mathlib.Core.Path.{◌≡◌, refl, sym, ap, subst, ◌∙◌}
use borrow.Author.Tests.{eqb-true}
use lib.Dec.{T, eqb}
use lib.Pow.{pow_pos}
use lib.IntN.{pos, negsuc}
use lib.Ieee.Fits.{down_pos}
use lib.Ieee.{Float, nan, inf, fin, binary64, up, down, lt, eq, le, is_nan, fits, of_bits}
use Rattle.std.proofs.Common.{inl, inr}
use Rattle.std.proofs.lemmas.Float.{eq_flip}
use Rattle.std.specs.Float.{float_with_sign, IsFloatMax, float_max}
use Rattle.lists.specs.Test.{and_left, and_right}
use Rattle.columns.specs.Kept.{f1}
use Rattle.floor.specs.PositiveMean.{magnitude, larger}
use Rattle.floor.proofs.positive_mean.mean_level.Goals as goal

-- the size is what is left without the sign
unsigned : (x : Float) → float_with_sign false x ≡ magnitude x
unfolding float_with_sign
unsigned nan = refl
unsigned (inf s) = refl
unsigned (fin s m e) = refl

-- m times a power of 2 is 1
whole_one : (m k : ℕ) → m * 2 ^ k ≡ 1 → fin false m (pos k) ≡ fin false 1 (pos 0)
whole_one zero k a = absurd (omega (arith, a, zero-mul (2 ^ k)))
whole_one (suc zero) zero a = refl
whole_one (suc zero) (suc k) a = absurd (omega (arith, a, pow_pos k))
whole_one (suc (suc m)) k a = let l : 2 ≤ suc (suc m) = omega arith in absurd (omega (arith, a, pow_pos k, mul-le-mul_right (2 ^ k) l))

-- x equal to 1.0
one : (x : Float) → fits binary64 x ≡ true → eq x f1 ≡ true → x ≡ f1
unfolding eq fits of_bits
one nan h q = absurd (true≢false (sym q))
one (inf s) h q = absurd (true≢false (sym q))
one (fin true m d) h q =
    let a : m * up d * 1 ≡ 1 * down d = eqb-true (m * up d * 1) (1 * down d) (and_left _ _ q) in
    let z : m * up d * 1 ≡ 0 = eqb-true (m * up d * 1) 0 (and_right (eqb (m * up d * 1) (1 * down d)) _ q) in
    absurd (omega (arith, a, z, down_pos d))
one (fin false m (pos k)) h q =
    let a : m * 2 ^ k * 1 ≡ 1 = eqb-true (m * 2 ^ k * 1) 1 (and_left _ _ q) in whole_one m k (omega arith)
one (fin false zero (negsuc k)) h q =
    let a : 0 ≡ 1 * 2 ^ suc k = eqb-true 0 (1 * 2 ^ suc k) (and_left _ _ q) in absurd (omega (arith, pow_pos k))
one (fin false (suc m) (negsuc k)) h q =
    let a : suc m * 1 * 1 ≡ 1 * 2 ^ suc k = eqb-true (suc m * 1 * 1) (1 * 2 ^ suc k) (and_left _ _ q) in
    let o : suc m % 2 ≡ 1 = eqb-true (suc m % 2) 1 (and_left _ _ (and_left _ _ (and_left _ _ h))) in absurd (omega arith)

-- the greater of x and 1.0
greater : (x r : Float) → fits binary64 x ≡ true → IsFloatMax x f1 r → (eq x f1 ≡ false → r ≡ float_max x f1) → r ≡ larger x f1
unfolding le is_nan of_bits
greater x r h is unequal = go (eq x f1) refl
  where
    go : (b : Bool) → eq x f1 ≡ b → r ≡ larger x f1
    go true q = elim is [ inl a ↦ a ∙ left _ ∙ sym (left (lt f1 x)) | inr a ↦ a ∙ right _ ∙ sym (left (lt f1 x)) ]
      where
        left : (b : Bool) → cond b x f1 ≡ f1
        left true = one x h q
        left false = refl

        right : (b : Bool) → cond b f1 x ≡ f1
        right true = refl
        right false = one x h q
    go false q =
        unequal q
        ∙ ap (λ (b : Bool). cond ((lt f1 x || b) || is_nan f1) x f1) (turned (eq f1 x) refl)
        ∙ ap (λ (b : Bool). cond b x f1) (or-false (lt f1 x || false) ∙ or-false (lt f1 x))
      where
        turned : (b : Bool) → eq f1 x ≡ b → b ≡ false
        turned true t = absurd (subst T q (eq_flip f1 x (subst T (sym t) tt)))
        turned false t = refl

pub returns : goal.returns
returns c =
    greater c.abs.result c.max.result c.abs.type_inv c.max.ensures.value c.max.ensures.unequal
    ∙ ap (λ (x : Float). larger x f1) (c.abs.ensures.value ∙ unsigned c.positive_mean.result ∙ ap magnitude c.positive_mean.ensures)
