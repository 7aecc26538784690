-- A part of a list of floats, set.
-- Assumes nothing.
use Rattle.std.specs.Prelude.{ℕ, ◌≤◌, ◌<◌, ◌≡◌, List, length, get_or, Float}
use Rattle.std.specs.Float.{nan}
use Rattle.columns.specs.Kept.{f0}

-- 0.0 at every place
abbrev pub zeros : ℕ → Float
zeros p = f0

-- the entries from `from` to below q are set to f, and all others are as they were
pub record PartSet (from q : ℕ) (f : ℕ → Float) (z₀ z : List Float) : Type 0 where
  pub long : length z ≡ length z₀
  pub holds : (p : ℕ) → from ≤ p → p < q → get_or z p nan ≡ f p
  pub before : (p : ℕ) → p < from → get_or z p nan ≡ get_or z₀ p nan
  pub after : (p : ℕ) → q ≤ p → get_or z p nan ≡ get_or z₀ p nan
