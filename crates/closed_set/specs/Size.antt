-- How many pairs the closed set has, and how many are requested.
-- Assumes nothing.
use Rattle.std.specs.Prelude.{ℕ, Bool, List}
use Rattle.pairs.specs.ColumnOrder.{set_size}
use Rattle.closed_set.specs.ClosedSet.{member}

-- the number of pairs of the closed set
abbrev pub closure_size : ℕ → (ℕ → List ℕ) → (ℕ → ℕ → Bool) → ℕ
closure_size n desc req = set_size n (member n desc req)

-- the number of requested pairs
abbrev pub requested_pairs : ℕ → (ℕ → ℕ → Bool) → ℕ
requested_pairs n req = set_size n req
