-- What is not finite, and what is beyond 2 ^ 53, is not 0.
-- Assumes nothing.
use Prim.Native.Nat.{ℕ, ◌^◌}
use mathlib.Core.Bool.{true, not, true≢false}
use mathlib.Core.List.{List}
use mathlib.Core.Path.{◌≡◌, refl, sym, ap}
use native.Mathlib.Omega.{arith}
use borrow.Author.Tests.{ltb-true, ne_eqb}
use lib.Ieee.{Float, nan, inf, fin, eq, ne, of_bits}
use lib.Ieee.Scale.{finite}
use lib.IntN.{ℤ, nat_abs}
use Rattle.columns.specs.Columns.{value}
use Rattle.columns.specs.Kept.{f0, nonzero, not_finite}
use Rattle.columns.specs.WholeFactor.{whole_value, whole_nonzero}
use Rattle.exact.specs.Checked.{beyond}

infinite_nonzero : (v : Float) → not (finite v) ≡ true → ne v f0 ≡ true
unfolding ne eq of_bits
infinite_nonzero nan e = refl
infinite_nonzero (inf s) e = refl
infinite_nonzero (fin s m k) e = absurd (true≢false (sym e))

pub not_finite_nonzero : (values : List Float) (p : ℕ) → not_finite values p ≡ true → nonzero values p ≡ true
not_finite_nonzero values p = infinite_nonzero (value values p)

pub beyond_nonzero : (values : List ℤ) (p : ℕ) → beyond (whole_value values p) ≡ true → whole_nonzero values p ≡ true
beyond_nonzero values p e =
    let z = whole_value values p in
    ap not (ne_eqb (nat_abs z) 0 (λ q. omega (arith, q, ltb-true (2 ^ 53) (nat_abs z) e)))
