use borrow.Author.Tests.{lt-ltb, le-ltb}
use lib.Dec.{T}
use lib.Ieee.{Float, nan, inf, fin, is_nan, binary64, of_bits, div}
use lib.Ieee.Bits.{nan_bits_is, nan_bits_above}
use mathlib.Core.Bool.{Bool, true, not, false≢true}
use mathlib.Core.Path.{subst, ◌≡◌, refl, sym, ◌∙◌}
use Rattle.case_text.proofs.of_bits.Goals as goal

-- a value that is a NaN is the NaN
is-nan : (x : Float) → is_nan x ≡ true → nan ≡ x
unfolding is_nan
is-nan nan e = refl
is-nan (inf s) e = absurd (false≢true e)
is-nan (fin s m k) e = absurd (false≢true e)

pub returns-then-bits-gt9218868437227405312 : goal.returns-then-bits-gt9218868437227405312
unfolding div of_bits
returns-then-bits-gt9218868437227405312 c = is-nan (of_bits binary64 c.args.bits) (sym (nan_bits_is binary64 c.args.bits) ∙ nan_bits_above binary64 c.args.bits ∙ lt-ltb _ _ c.if-bits-gt9218868437227405312.true)

pub float_from_bits-result : goal.float_from_bits-result
float_from_bits-result c = subst (λ (b : Bool). T (not b)) (sym (nan_bits_above binary64 c.args.bits ∙ le-ltb _ _ c.if-bits-gt9218868437227405312.false)) tt
