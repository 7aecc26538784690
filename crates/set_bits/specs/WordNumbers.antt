-- The numbers that a word's digits say: what listing them asks and leaves.
-- Assumes nothing.
use Rattle.std.specs.Prelude.{ℕ, ◌+◌, ◌-◌, ◌≤◌, Bool, List, eqb, length}
use Rattle.lists.specs.Select.{tally}
use Rattle.bits.specs.Bits.{digit}
use Rattle.refusal.specs.Bounds.{max_dimension}

-- the numbers that a word's digits say, the lowest being that of `low`
abbrev pub word_test : ℕ → ℕ → ℕ → Bool
word_test w low r = eqb (digit w (r - low)) 1

-- there is room for the numbers that a word says
pub record ListWordInput (w low e first : ℕ) (list : List ℕ) : Type 0 where
  pub within : low ≤ e
  pub small : e ≤ max_dimension
  pub fits : first + tally (word_test w low) low e ≤ length list
