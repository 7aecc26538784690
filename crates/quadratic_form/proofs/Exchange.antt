-- In f64 the term of a with b is that of b with a.
-- Assumes nothing.
use Rattle.std.specs.Prelude.{ℕ, ◌*◌, ◌≡◌, refl, Bool, true, false, cond, eqb, Float}
use Rattle.std.proofs.Math.Nat as nat
use Rattle.std.proofs.Common.{ap, ap₂, ◌∙◌}
use Rattle.std.specs.Float.{Format, binary64, nan, inf, fin}
use Rattle.std.specs.Float.Ieee.{up, down, unlike, round, mul}
use Rattle.takahashi.proofs.Recurrence.{at_sym}
use Rattle.exact.specs.Exact.{floats}
use Rattle.quadratic_form.specs.CrossValue.{term}

unlike_exchanged : (s t : Bool) → unlike s t ≡ unlike t s
unlike_exchanged true true = refl
unlike_exchanged true false = refl
unlike_exchanged false true = refl
unlike_exchanged false false = refl

mul_exchanged : (f : Format) (x y : Float) → mul f x y ≡ mul f y x
unfolding mul
mul_exchanged f nan nan = refl
mul_exchanged f nan (inf t) = refl
mul_exchanged f nan (fin t n d) = refl
mul_exchanged f (inf s) nan = refl
mul_exchanged f (inf s) (inf t) = ap inf (unlike_exchanged s t)
mul_exchanged f (inf s) (fin t n d) = ap (λ (b : Bool). cond (eqb n 0) nan (inf b)) (unlike_exchanged s t)
mul_exchanged f (fin s m e) nan = refl
mul_exchanged f (fin s m e) (inf t) = ap (λ (b : Bool). cond (eqb m 0) nan (inf b)) (unlike_exchanged s t)
mul_exchanged f (fin s m e) (fin t n d) =
    ap (λ (b : Bool). round f b (m * up e * (n * up d)) (down e * down d)) (unlike_exchanged s t)
    ∙ ap₂ (round f (unlike t s)) (nat.mul_comm (m * up e) (n * up d)) (nat.mul_comm (down e) (down d))

pub term-exchanged : (k l : ℕ → ℕ) (w v : ℕ → Float) (Z : ℕ → ℕ → Float) (a b : ℕ) → term floats k l w v Z a b ≡ term floats l k v w Z b a
term-exchanged k l w v Z a b = ap₂ (mul binary64) (mul_exchanged binary64 (w a) (v b)) (at_sym Z (k a) (l b))
