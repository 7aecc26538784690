-- From a list that is filled with the entries of a set of pairs, whose positions stand in the scratch: where the set holds the pairs of an operator, or of
-- row pairs of two, their values are those of the filled table. Assumes nothing.
use Rattle.std.specs.Prelude.{ℕ, ◌≤◌, ◌<◌, max, min, ◌≡◌, Bool, true, List, length, Float}
use Rattle.pairs.specs.ColumnOrder.{set_size}
use Rattle.entries.specs.Position.{Positioned}

-- a set of pairs, its members' positions, and a list with room for their entries
module _ (n : ℕ) (S : ℕ → ℕ → Bool) (Z : ℕ → ℕ → Float) (scratch : List ℕ) (values : List Float) (fits : set_size n S ≤ length values) (P : Positioned n S scratch) where
  -- a pair of columns that is a member
  pub record MemberPair (r c : ℕ) : Type 0 where
    pub inside : max r c < n
    pub member : S (max r c) (min r c) ≡ true
