-- Kept entries that a factor may not have, whatever the values' type: which values are not 0, and which are unfit, are tests of the place.
-- Assumes nothing.
use Rattle.std.specs.Prelude.{ℕ, ◌+◌, Bool, ◌&&◌, List}
use Rattle.lists.specs.Test.{any_in}
use Rattle.columns.specs.Columns.{start}
use Rattle.columns.specs.Kept.{kept}

-- column c has a kept entry that is unfit
abbrev pub unfit_column : List ℕ → List ℕ → (ℕ → Bool) → (ℕ → Bool) → ℕ → Bool
unfit_column starts rows nz unfit c = any_in (λ p. kept rows nz c p && unfit p) (start starts c) (start starts (c + 1))
