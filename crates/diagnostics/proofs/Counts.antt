-- A count up to 2^53 as a float, and the ratio of two.
-- Assumes nothing.
use Prim.Native.Nat.{ℕ, ◌≤◌, ◌<◌, max}
use native.Mathlib.Omega.{arith}
use mathlib.Core.Path.{◌≡◌, ap}
use lib.Dec.{T, le→leb}
use lib.IntN.{pos}
use lib.Ieee.{binary64, in_float, of_int, div}
use Rattle.diagnostics.specs.Diagnosis.{max_count, ratio_of}

pub exact : (k : ℕ) → k ≤ max_count → T (in_float binary64 (pos k))
unfolding in_float
exact k h = le→leb k max_count h

-- a count of 0 divides as 1
pub ratio_none : (a b : ℕ) → b < 1 → div binary64 (of_int binary64 (pos a)) (of_int binary64 (pos 1)) ≡ ratio_of a b
unfolding ratio_of
ratio_none a b h = let q : 1 ≡ max b 1 = omega arith in ap (λ (k : ℕ). div binary64 (of_int binary64 (pos a)) (of_int binary64 (pos k))) q

pub ratio_some : (a b : ℕ) → 1 ≤ b → div binary64 (of_int binary64 (pos a)) (of_int binary64 (pos b)) ≡ ratio_of a b
unfolding ratio_of
ratio_some a b h = let q : b ≡ max b 1 = omega arith in ap (λ (k : ℕ). div binary64 (of_int binary64 (pos a)) (of_int binary64 (pos k))) q
