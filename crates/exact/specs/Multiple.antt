-- Floats that are whole multiples of 2 ^ -s: `Multiple s x m` says that x is finite and equals m / 2 ^ s. Whole numbers are the case s = 0.
-- Sums, differences, products and quotients of such floats are exact where the RESULT is such a multiple too, with a multiplier of at most 2 ^ 53 in size;
-- nothing is asked of the operands' size. A float has one multiplier, and `==` tells values apart. Assumes nothing.
use Rattle.std.specs.Prelude.{◌≡◌, false, ℕ, ◌*◌, ◌^◌, ◌≤◌, ℤ, nat_abs, Float}
use Rattle.std.proofs.Math.IntN.{pos, ◌*ℤ◌}
use Rattle.std.specs.Float.{nan, inf, fin}
use Rattle.std.specs.Float.Ieee.{up, down}
use Rattle.integers.specs.Integer.{signed}

-- x, which is ± k * up e / down e, equals m / 2 ^ s: that equation with no fraction. Either zero equals 0
abbrev pub Multiple : ℕ → Float → ℤ → Type 0
Multiple s nan m = ⊥
Multiple s (inf t) m = ⊥
Multiple s (fin t k e) m = signed t (k * up e) *ℤ pos (2 ^ s) ≡ m *ℤ pos (down e)

-- x is the whole number z
abbrev pub Whole : Float → ℤ → Type 0
Whole = Multiple 0

-- at most 2 ^ 53 in size: the largest size up to which every multiplier gives a value of the format
abbrev pub Small : ℤ → Type 0
Small z = nat_abs z ≤ 2 ^ 53

-- the constant 0.0
abbrev pub zero_float : Float
zero_float = fin false 0 (pos 0)

-- the constant 1.0
abbrev pub one_float : Float
one_float = fin false 1 (pos 0)
