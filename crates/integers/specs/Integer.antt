-- The laws of the ring of integers that the library lacks, the size of an integer, and a natural number with a sign. Assumes nothing.
use Rattle.std.specs.Prelude.{Bool, true, false, ℕ, ℤ, pos, neg_ℤ}

-- a natural number with a sign: -c where s is true
abbrev pub signed : Bool → ℕ → ℤ
signed false c = pos c
signed true c = neg_ℤ (pos c)
