-- Bits of a list of 32-bit words: bit p stands in the word p / 32.
-- Assumes nothing.
use Rattle.std.specs.Prelude.{ℕ, ◌+◌, ◌/◌, ◌%◌, ◌^◌, ◌<◌, ◌≡◌, Bool, List, eqb, get_or, set}
use Rattle.std.specs.Int.Bits.{bit_or}

-- the digit b of a word, 0 or 1
abbrev pub digit : ℕ → ℕ → ℕ
digit w b = w / 2 ^ b % 2

-- bit p
unfoldable pub bit_at : List ℕ → ℕ → Bool
bit_at s p = eqb (digit (get_or s (p / 32) 0) (p % 32)) 1

-- how many words hold t bits
unfoldable pub bit_words : ℕ → ℕ
bit_words t = (t + 31) / 32

-- the words with bit p set
abbrev pub with_bit : List ℕ → ℕ → List ℕ
with_bit s p = set s (p / 32) (bit_or (get_or s (p / 32) 0) (2 ^ (p % 32)))

-- the digit t of w, one of k, is 1, and those below it are 0
pub record Lowest (k w t : ℕ) : Type 0 where
  pub inside : t < k
  pub is_one : digit w t ≡ 1
  pub below : (b : ℕ) → b < t → digit w b ≡ 0
