-- What is refused of a factor in compressed columns before its values are looked at: steps 1, 2 and 3.
-- Assumes nothing.
use Rattle.std.specs.Prelude.{ℕ, ◌+◌, ◌-◌, Bool, not, List, [], ◌∷◌, ◌++◌, ltb, leb, eqb, length, get_or, Float}
use Rattle.std.specs.Float.{nan}
use Rattle.lists.specs.Test.{any, any_in}
use Rattle.refusal.specs.Steps.{Step}
use Rattle.refusal.specs.Bounds.{max_dimension, max_entries}

-- a factor in compressed columns, with values of any kind: its dimension, the columns' starts, and the row and the value of each stored entry
pub record FactorLists (W : Type 0) : Type 0 where
  pub n : ℕ
  pub starts : List ℕ
  pub rows : List ℕ
  pub values : List W

-- from a function's parameters in their order
abbrev pub factor_lists : {W : Type 0} → ℕ → List ℕ → List ℕ → List W → FactorLists W
factor_lists n starts rows values = record { n = n; starts = starts; rows = rows; values = values }

-- where column c starts; it ends where the next one starts
abbrev pub start : List ℕ → ℕ → ℕ
start starts c = get_or starts c 0

-- the row of the stored entry at p
abbrev pub row : List ℕ → ℕ → ℕ
row rows p = get_or rows p 0

-- its value
abbrev pub value : List Float → ℕ → Float
value values p = get_or values p nan

-- the start after column c is below its own
abbrev pub falls : List ℕ → ℕ → Bool
falls starts c = ltb (start starts (c + 1)) (start starts c)

-- the index at k is n or more
abbrev pub outside_at : ℕ → List ℕ → ℕ → Bool
outside_at n indices k = leb n (get_or indices k 0)

-- an index of the list is n or more
abbrev pub outside : ℕ → List ℕ → Bool
outside n indices = any (outside_at n indices) (length indices)

-- the row at p is not above the one before it
abbrev pub not_above : List ℕ → ℕ → Bool
not_above rows p = leb (row rows p) (row rows (p - 1))

-- column c has a row that is not above the one before it
abbrev pub unsorted : List ℕ → List ℕ → ℕ → Bool
unsorted starts rows c = any_in (not_above rows) (start starts c + 1) (start starts (c + 1))

-- 1: n above the largest dimension, or too many stored entries
unfoldable pub bound_steps : ℕ → ℕ → List Step
bound_steps n entries = (1, ltb max_dimension n) ∷ (1, ltb max_entries entries) ∷ []

-- n + 1 starts broken: first start not 0, a falling start, last start not the number of indices, or indices and values of unequal number
unfoldable pub broken_steps : ℕ → ℕ → List ℕ → ℕ → ℕ → List Step
broken_steps number n starts indices values =
    (number, not (eqb (start starts 0) 0))
    ∷ (number, any (falls starts) n)
    ∷ (number, not (eqb (start starts n) indices))
    ∷ (number, not (eqb indices values))
    ∷ []

-- 2: starts not n + 1 long, or broken; `values` is the number of values
unfoldable pub starts_steps : ℕ → List ℕ → List ℕ → ℕ → List Step
starts_steps n starts rows values = (2, not (eqb (length starts) (n + 1))) ∷ broken_steps 2 n starts (length rows) values

-- 3: a row index of n or more, or not above the one before it in its column
unfoldable pub rows_steps : ℕ → List ℕ → List ℕ → List Step
rows_steps n starts rows = (3, outside n rows) ∷ (3, any (unsorted starts rows) n) ∷ []

-- 2 and 3 of compressed columns, whatever their values; `values` is the number of values
unfoldable pub column_steps : ℕ → List ℕ → List ℕ → ℕ → List Step
column_steps n starts rows values = starts_steps n starts rows values ++ rows_steps n starts rows
