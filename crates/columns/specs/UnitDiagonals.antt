-- Diagonals that must be 1, whatever the values' type: which values are not 0, and which are 1, are tests of the place. Refusals of a kept diagonal other
-- than 1, with a number of each family of factors, and of a column without a kept diagonal, with 6; and what a factor has that passes them.
-- Assumes nothing.
use Rattle.std.specs.Prelude.{ℕ, ◌+◌, ◌≤◌, ◌<◌, ◌≡◌, Bool, ◌&&◌, List, [], ◌∷◌}
use Rattle.std.proofs.Math.Bool.{true, not}
use Rattle.lists.specs.Test.{any, any_in}
use Rattle.refusal.specs.Steps.{Step}
use Rattle.columns.specs.Columns.{start}
use Rattle.columns.specs.Kept.{kept_diagonal}
use Rattle.columns.specs.Diagonal.{no_diagonal, Diagonal}

module _ (rows : List ℕ) (nz one : ℕ → Bool) where
  -- the entry at p is column c's kept diagonal, and not 1
  abbrev pub other_than_one : ℕ → ℕ → Bool
  other_than_one c p = kept_diagonal rows nz c p && not (one p)

  -- column c has such a diagonal
  abbrev pub other_diagonal : List ℕ → ℕ → Bool
  other_diagonal starts c = any_in (other_than_one c) (start starts c) (start starts (c + 1))

-- a kept diagonal other than 1, in any column
unfoldable pub unit_steps : ℕ → ℕ → List ℕ → List ℕ → (ℕ → Bool) → (ℕ → Bool) → List Step
unit_steps number n starts rows nz one = (number, any (other_diagonal rows nz one starts) n) ∷ []

-- 6: a column without a kept diagonal
unfoldable pub missing_steps : ℕ → List ℕ → List ℕ → (ℕ → Bool) → List Step
missing_steps n starts rows nz = (6, any (no_diagonal starts rows nz) n) ∷ []

module _ (n : ℕ) (starts rows : List ℕ) (nz one : ℕ → Bool) where
  -- past the first: each kept diagonal is 1
  abbrev pub UnitDiagonals : Type 0
  UnitDiagonals = (c p : ℕ) → c < n → start starts c ≤ p → p < start starts (c + 1) → kept_diagonal rows nz c p ≡ true → one p ≡ true

  -- past both: one kept diagonal a column, and it is 1
  pub record Units : Type 0 where
    pub diagonal : (c : ℕ) → c < n → Diagonal starts rows nz c
    pub unit : (c : ℕ) (h : c < n) → one (diagonal c h).place ≡ true
