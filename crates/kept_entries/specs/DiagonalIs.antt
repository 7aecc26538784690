-- The kept diagonal of a column: whether there is one, and whether it is 1.
-- Assumes nothing.
use Rattle.std.specs.Prelude.{ℕ, ◌≡◌, Bool, true, false, not, List, Option, None, Some}
use Rattle.lists.specs.Test.{any_in}
use Rattle.columns.specs.Kept.{kept_diagonal}
use Rattle.columns.specs.UnitDiagonals.{other_than_one}

-- there is a diagonal
abbrev pub is_there : Option Bool → Bool
is_there None = false
is_there (Some unit) = true

-- it is not 1
abbrev pub is_other : Option Bool → Bool
is_other None = false
is_other (Some unit) = not unit

-- `unit` says whether the kept diagonal of column c among the entries from s to below e is 1, and is none if there is no such diagonal
pub record DiagonalIs (rows : List ℕ) (nz one : ℕ → Bool) (c s e : ℕ) (unit : Option Bool) : Type 0 where
  pub kept : any_in (kept_diagonal rows nz c) s e ≡ is_there unit
  pub other : any_in (other_than_one rows nz one c) s e ≡ is_other unit
