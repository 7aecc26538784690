-- A set of pairs as marks: the bit at a pair's place, row by row, is set for a member.
-- Assumes nothing.
use Rattle.std.specs.Prelude.{ℕ, ◌/◌, ◌≤◌, ◌<◌, ◌≡◌, Bool, ◌&&◌, ◌||◌, List, eqb, length}
use Rattle.bits.specs.Bits.{bit_at}
use Rattle.refusal.specs.Bounds.{max_dimension}
use Rattle.pairs.specs.Pair.{row_place}

-- the set that the marks say
abbrev pub marking : List ℕ → ℕ → ℕ → Bool
marking s r c = bit_at s (row_place r c)

-- the word of a pair's mark is there
abbrev pub HasMark : List ℕ → ℕ → ℕ → Type 0
HasMark s r c = row_place r c / 32 < length s

-- one set or the other
abbrev pub either : (ℕ → ℕ → Bool) → (ℕ → ℕ → Bool) → ℕ → ℕ → Bool
either S R r c = S r c || R r c

-- the one pair (a, b)
abbrev pub single : ℕ → ℕ → ℕ → ℕ → Bool
single a b r c = eqb a r && eqb b c

-- two sets agree on the pairs
abbrev pub Agree : (ℕ → ℕ → Bool) → (ℕ → ℕ → Bool) → Type 0
Agree A B = (r c : ℕ) → c ≤ r → A r c ≡ B r c

-- from the marks s to the marks s' just the pairs of a set are added
pub record Added (new : ℕ → ℕ → Bool) (s s' : List ℕ) : Type 0 where
  pub sets : Agree (marking s') (either (marking s) new)
  pub long : length s' ≡ length s

-- ---- one pair

-- a pair that has a mark
pub record MarkPairInput (r c : ℕ) (s : List ℕ) : Type 0 where
  pub ordered : c ≤ r
  pub small : r ≤ max_dimension
  pub inside : HasMark s r c
