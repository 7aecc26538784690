-- Words that are 0: a run of them, and the first that is not.
-- Assumes nothing.
use Rattle.std.specs.Prelude.{ℕ, ◌+◌, ◌≤◌, ◌<◌, ◌≡◌, List, ◌≢◌, get_or}
use Rattle.std.specs.Int.Bits.{bit_or}

-- the bits of the four words from w on
abbrev pub four_words : List ℕ → ℕ → ℕ
four_words s w = bit_or (bit_or (bit_or (get_or s w 0) (get_or s (w + 1) 0)) (get_or s (w + 2) 0)) (get_or s (w + 3) 0)

-- the words from w on are 0 up to the word k, which is not past `end`
pub record Zeros (s : List ℕ) (w end k : ℕ) : Type 0 where
  pub from : w ≤ k
  pub upto : k ≤ end
  pub zeros : (i : ℕ) → w ≤ i → i < k → get_or s i 0 ≡ 0

-- and k is not 0, unless it is `end`
pub record ZerosSkipped (s : List ℕ) (w end k : ℕ) : Type 0 where
  pub before : Zeros s w end k
  pub stops : k < end → get_or s k 0 ≢ 0
