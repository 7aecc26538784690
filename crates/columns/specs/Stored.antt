-- Step 18, a kept entry that is not finite; a factor's steps, 2, 3 and 18, and with 1 before them; what a factor has that passes.
-- Assumes nothing.
use Rattle.std.specs.Prelude.{ℕ, ◌+◌, ◌≤◌, ◌<◌, ◌≡◌, Bool, ◌&&◌, List, [], ◌∷◌, ◌++◌, length, Float}
use Rattle.std.proofs.Math.Bool.{true}
use Rattle.std.specs.Float.Ieee.Scale.{finite}
use Rattle.lists.specs.Test.{any, any_in}
use Rattle.refusal.specs.Steps.{Step}
use Rattle.columns.specs.Columns.{FactorLists, start, value, bound_steps, column_steps}
use Rattle.columns.specs.Kept.{nonzero, not_finite, kept}

-- the entry at p is kept in column c and is not finite
abbrev pub kept_not_finite : List ℕ → List Float → ℕ → ℕ → Bool
kept_not_finite rows values c p = kept rows (nonzero values) c p && not_finite values p

-- column c has a kept entry that is not finite
abbrev pub not_finite_column : List ℕ → List ℕ → List Float → ℕ → Bool
not_finite_column starts rows values c = any_in (kept_not_finite rows values c) (start starts c) (start starts (c + 1))

-- 18: a kept entry that is not finite
unfoldable pub finite_steps : ℕ → List ℕ → List ℕ → List Float → List Step
finite_steps n starts rows values = (18, any (not_finite_column starts rows values) n) ∷ []

-- 2, 3 and 18 of a factor
unfoldable pub stored_steps : FactorLists Float → List Step
stored_steps f = column_steps f.n f.starts f.rows (length f.values) ++ finite_steps f.n f.starts f.rows f.values

-- 1, 2, 3 and 18 of a factor
unfoldable pub factor_steps : FactorLists Float → List Step
factor_steps f = bound_steps f.n (length f.rows) ++ stored_steps f

-- past 18: each kept entry is finite
pub record FiniteEntries (n : ℕ) (starts rows : List ℕ) (values : List Float) : Type 0 where
  pub finite_kept : (c p : ℕ) → c < n → start starts c ≤ p → p < start starts (c + 1)
      → kept rows (nonzero values) c p ≡ true → finite (value values p) ≡ true
