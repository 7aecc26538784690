-- The numbers of a factor that passes 18 and 6: each diagonal is finite and above 0.0, each descendant's value is finite.
-- Assumes nothing.
use Rattle.std.specs.Prelude.{ℕ, ◌<◌, ◌≡◌, true, List, length, get_or, Float}
use Rattle.std.specs.Float.Ieee.{lt}
use Rattle.std.specs.Float.Ieee.Scale.{finite}
use Rattle.takahashi.specs.Entries.{Entry}
use Rattle.columns.specs.Kept.{f0, nonzero, diag, desc, pattern}

-- the diagonals and the descendants of the first n columns
pub record Numbers (n : ℕ) (starts rows : List ℕ) (values : List Float) : Type 0 where
  pub diagonal_finite : (c : ℕ) → c < n → finite (diag starts rows values c) ≡ true
  pub diagonal_positive : (c : ℕ) → c < n → lt f0 (diag starts rows values c) ≡ true
  pub descendant_finite : (c i : ℕ) (d : Entry Float) → c < n → i < length (pattern starts rows (nonzero values) c)
      → finite (get_or (desc starts rows values c) i d).value ≡ true
