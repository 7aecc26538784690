-- A factor whose values are whole numbers: which of them are kept, and the descendants of a column with their values.
-- Assumes nothing.
use Rattle.std.specs.Prelude.{ℕ, Bool, false, not, List, map, eqb, get_or, ℤ, pos, negsuc, nat_abs}
use Rattle.takahashi.specs.Entries.{Entry}
use Rattle.columns.specs.Columns.{row}
use Rattle.columns.specs.Kept.{desc_places, pattern}

-- the whole number at p
abbrev pub whole_value : List ℤ → ℕ → ℤ
whole_value values p = get_or values p (pos 0)

-- a whole number is not 0
abbrev pub not_zero : ℤ → Bool
not_zero z = not (eqb (nat_abs z) 0)

-- it is 1
abbrev pub is_one : ℤ → Bool
is_one (pos n) = eqb n 1
is_one (negsuc n) = false

-- the number at p is not 0
abbrev pub whole_nonzero : List ℤ → ℕ → Bool
whole_nonzero values p = not_zero (whole_value values p)

-- it is 1
abbrev pub whole_one : List ℤ → ℕ → Bool
whole_one values p = is_one (whole_value values p)

-- the stored entry at p
abbrev pub whole_stored : List ℕ → List ℤ → ℕ → Entry ℤ
whole_stored rows values p = record { row = row rows p; value = whole_value values p }

module _ (starts rows : List ℕ) (values : List ℤ) where
  -- the rows of the descendants of a column
  abbrev pub whole_pattern : ℕ → List ℕ
  whole_pattern = pattern starts rows (whole_nonzero values)

  -- the descendants of column c, each with its value
  abbrev pub whole_desc : ℕ → List (Entry ℤ)
  whole_desc c = map (whole_stored rows values) (desc_places starts rows (whole_nonzero values) c)
