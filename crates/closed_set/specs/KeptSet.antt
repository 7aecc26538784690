-- The kept entries as a set of pairs: a factor's count is that set's size, so equal kept positions give equal counts and patterns.
-- Assumes nothing.
use Rattle.std.specs.Prelude.{ℕ, ◌<◌, ◌≡◌, Bool, List}
use Rattle.columns.specs.Kept.{kept_pair}

-- two factors of n columns keep entries at the same positions
abbrev pub SameKept : ℕ → List ℕ → List ℕ → (ℕ → Bool) → List ℕ → List ℕ → (ℕ → Bool) → Type 0
SameKept n starts rows nz starts' rows' nz' = (r c : ℕ) → c < n → kept_pair starts rows nz r c ≡ kept_pair starts' rows' nz' r c
