-- The lesser and the greater of two whole numbers. Assumes nothing.
use Rattle.std.specs.Prelude.{cond, ℤ}
use Rattle.std.specs.Int.Signed.{le_z}

abbrev pub minℤ : ℤ → ℤ → ℤ
minℤ a b = cond (le_z a b) a b

abbrev pub maxℤ : ℤ → ℤ → ℤ
maxℤ a b = cond (le_z a b) b a
