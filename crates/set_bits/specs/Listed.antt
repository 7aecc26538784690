-- The numbers between two ends that pass a test, ascending, listed behind other numbers.
-- Assumes nothing.
use Rattle.std.specs.Prelude.{ℕ, ◌+◌, ◌≡◌, Bool, List}
use Rattle.lists.specs.Select.{select, tally}
use Rattle.lists.specs.Overwrite.{splice}

-- the numbers from s to below e that pass stand behind `first` numbers, up to `count`
pub record NumbersListed (test : ℕ → Bool) (s e first : ℕ) (list₀ list : List ℕ) (count : ℕ) : Type 0 where
  pub count_is : count ≡ first + tally test s e
  pub list_is : list ≡ splice first (select test s e) list₀
