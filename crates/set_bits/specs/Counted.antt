-- Bits that are set, counted: their digits, and how many places there may be.
-- Assumes nothing.
use Rattle.std.specs.Prelude.{ℕ, Bool, eqb}
use Rattle.bits.specs.Bits.{digit}

-- more places than words of scratch have
abbrev pub max_bits : ℕ
max_bits = 4294967296

-- the digits of a word that are 1
abbrev pub digit_test : ℕ → ℕ → Bool
digit_test w b = eqb (digit w b) 1
