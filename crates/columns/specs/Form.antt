-- How a factor is given: L alone, of L * Lᵀ, with its diagonal kept; or L with ones on its diagonal, kept or not, and pivots d, of L * D * Lᵀ.
-- What a column's entries are finished with, and how many pairs count as kept.
-- Assumes nothing.
use Rattle.std.specs.Prelude.{ℕ, ◌+◌, ◌<◌, ◌≡◌, Bool, true, false, ◌||◌, Option, None, Some, List, eqb, Float}
use Rattle.std.specs.Borrow.{Bor}
use Rattle.std.proofs.Math.ListN.{length}
use Rattle.std.specs.Float.Ieee.{le}
use Rattle.std.specs.Float.Ieee.Scale.{finite}
use Rattle.lists.specs.Sum.{sum_to}
use Rattle.columns.specs.Columns.{value}
use Rattle.columns.specs.Kept.{f0, nonzero, diag, pattern, kept_pair, factor_pairs}
use Rattle.columns.specs.Diagonal.{Diagonals}

-- L * Lᵀ, or L * D * Lᵀ with a list of pivots
pub data Form : Type 0 where
  cholesky : Form
  pivoted : List Float → Form

-- as a call tells it, by the pivots that it lends, if any
abbrev pub form_of : Option (Bor (List Float)) → Form
form_of None = cholesky
form_of (Some pivots) = pivoted pivots.now

-- a finite pivot above 0.0 for each of n columns
pub record Pivots (n : ℕ) (pivots : List Float) : Type 0 where
  pub long : length pivots ≡ n
  pub finite_pivot : (c : ℕ) → c < n → finite (value pivots c) ≡ true
  pub positive : (c : ℕ) → c < n → le (value pivots c) f0 ≡ false

-- the pairs of a pattern of n columns: in each its diagonal and its descendants
unfoldable pub pattern_pairs : ℕ → (ℕ → List ℕ) → ℕ
pattern_pairs n desc = sum_to (λ c. 1 + length (desc c)) n

module _ (n : ℕ) (starts rows : List ℕ) (values : List Float) where
  -- what the entries of column c are finished with: its kept diagonal, or its pivot
  abbrev pub divisor : Form → ℕ → Float
  divisor cholesky c = diag starts rows values c
  divisor (pivoted pivots) c = value pivots c

  -- how many pairs count as kept: the kept entries; with pivots a column counts its diagonal whether it is kept or not
  abbrev pub kept_pairs : Form → ℕ
  kept_pairs cholesky = factor_pairs starts rows (nonzero values) n
  kept_pairs (pivoted pivots) = pattern_pairs n (pattern starts rows (nonzero values))

  -- past 6: a kept diagonal above 0.0 in each column, or a pivot above 0.0 for each
  abbrev pub Divisors : Form → Type 0
  Divisors cholesky = Diagonals n starts rows values
  Divisors (pivoted pivots) = Pivots n pivots

-- (r, c) is a pair of the pattern: on the diagonal, kept there or not, or kept below it
abbrev pub pattern_pair : List ℕ → List ℕ → (ℕ → Bool) → ℕ → ℕ → Bool
pattern_pair starts rows nz r c = eqb r c || kept_pair starts rows nz r c
