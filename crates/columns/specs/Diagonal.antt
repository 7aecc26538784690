-- Step 6, and what a factor has that passes it: one kept diagonal a column, above 0.0 or NaN.
-- Assumes nothing.
use Rattle.std.specs.Prelude.{ℕ, ◌+◌, ◌≤◌, ◌<◌, ◌≡◌, Bool, ◌&&◌, ◌||◌, Float}
use Rattle.std.proofs.Math.Bool.{true, false, not}
use mathlib.Core.List.{List, [], ◌∷◌}
use Rattle.std.specs.Float.Ieee.{le}
use Rattle.lists.specs.Test.{any, any_in}
use Rattle.refusal.specs.Steps.{Step}
use Rattle.columns.specs.Columns.{FactorLists, start, value}
use Rattle.columns.specs.Kept.{f0, nonzero, kept, kept_diagonal, diag}

-- column c is without a kept diagonal
abbrev pub no_diagonal : List ℕ → List ℕ → (ℕ → Bool) → ℕ → Bool
no_diagonal starts rows nz c = not (any_in (kept_diagonal rows nz c) (start starts c) (start starts (c + 1)))

-- the entry at p is column c's kept diagonal and at most 0.0; a NaN is not
abbrev pub non_positive : List ℕ → List Float → ℕ → ℕ → Bool
non_positive rows values c p = kept_diagonal rows (nonzero values) c p && le (value values p) f0

-- column c has a kept diagonal at most 0.0
abbrev pub low_diagonal : List ℕ → List ℕ → List Float → ℕ → Bool
low_diagonal starts rows values c = any_in (non_positive rows values c) (start starts c) (start starts (c + 1))

-- 6: a column without a kept diagonal, or with one at most 0.0
unfoldable pub diagonal_steps : FactorLists Float → List Step
diagonal_steps f = (6, any (no_diagonal f.starts f.rows (nonzero f.values)) f.n) ∷ (6, any (low_diagonal f.starts f.rows f.values) f.n) ∷ []

-- either, for the entries from s to below e
unfoldable pub bad_between : List ℕ → List Float → ℕ → ℕ → ℕ → Bool
bad_between rows values c s e = not (any_in (kept_diagonal rows (nonzero values) c) s e) || any_in (non_positive rows values c) s e

-- either, for column c
abbrev pub bad_diagonal : List ℕ → List ℕ → List Float → ℕ → Bool
bad_diagonal starts rows values c = bad_between rows values c (start starts c) (start starts (c + 1))

-- the one kept diagonal of column c
pub record Diagonal (starts rows : List ℕ) (nz : ℕ → Bool) (c : ℕ) : Type 0 where
  pub place : ℕ
  pub from : start starts c ≤ place
  pub below : place < start starts (c + 1)
  pub kept : kept_diagonal rows nz c place ≡ true
  pub only : (q : ℕ) → start starts c ≤ q → q < start starts (c + 1) → kept_diagonal rows nz c q ≡ true → q ≡ place

-- past 6
pub record Diagonals (n : ℕ) (starts rows : List ℕ) (values : List Float) : Type 0 where
  pub diagonal : (c : ℕ) → c < n → Diagonal starts rows (nonzero values) c
  pub positive : (c : ℕ) → c < n → le (diag starts rows values c) f0 ≡ false
