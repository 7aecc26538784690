-- The numbers whose bits are set, ascending, listed behind other numbers: what listing them asks.
-- Assumes nothing.
use Rattle.std.specs.Prelude.{ℕ, ◌+◌, ◌-◌, ◌*◌, ◌/◌, ◌≤◌, ◌<◌, Bool, List, length}
use Rattle.lists.specs.Select.{tally}
use Rattle.bits.specs.Bits.{bit_at, bit_words}
use Rattle.refusal.specs.Bounds.{max_dimension}

-- the numbers that bits say, bit p being that of `low`
abbrev pub bits_test : List ℕ → ℕ → ℕ → ℕ → Bool
bits_test s p low k = bit_at s (p + (k - low))

-- there is room for the numbers below `high` that bits say
pub record BitsRoom (high p low first : ℕ) (list s : List ℕ) : Type 0 where
  pub small : high ≤ max_dimension
  pub within : low ≤ high
  pub fits : first + tally (bits_test s p low) low high ≤ length list

-- there is a number, and the words hold the bit of each
pub record ListBitsInput (high place low first : ℕ) (list s : List ℕ) : Type 0 where
  pub room : BitsRoom high place low first list s
  pub inside : low < high
  pub stored : bit_words (place + (high - low)) ≤ length s

-- the same of bits from a word's first on
pub record ListWordsInput (high word low first : ℕ) (list s : List ℕ) : Type 0 where
  pub room : BitsRoom high (word * 32) low first list s
  pub stored : word + (high - low + 31) / 32 ≤ length s
