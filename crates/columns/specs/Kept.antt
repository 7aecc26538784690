-- The kept entries of a factor: diagonals, the descendants of a column, the pattern, and their number.
-- Which values are not 0 is a test `nz` of the place, so that all but `diag` and `desc` serve values of any type.
-- Assumes nothing.
use Rattle.std.specs.Prelude.{ℕ, ◌+◌, Bool, not, ◌&&◌, List, map, ltb, leb, eqb, get_or, Float}
use Rattle.std.specs.Float.{binary64}
use Rattle.std.specs.Float.Ieee.{ne, of_bits}
use Rattle.std.specs.Float.Ieee.Scale.{finite}
use Rattle.lists.specs.Test.{any_in}
use Rattle.lists.specs.Select.{select, tally}
use Rattle.lists.specs.Sum.{sum_to}
use Rattle.takahashi.specs.Entries.{Entry}
use Rattle.columns.specs.Columns.{start, row, value}

-- 0.0
abbrev pub f0 : Float
f0 = of_bits binary64 0

-- 1.0
abbrev pub f1 : Float
f1 = of_bits binary64 0x3ff0_0000_0000_0000

-- the value at p is not 0.0 of either sign
abbrev pub nonzero : List Float → ℕ → Bool
nonzero values p = ne (value values p) f0

-- the value at p is NaN or an infinity
abbrev pub not_finite : List Float → ℕ → Bool
not_finite values p = not (finite (value values p))

-- the stored entry at p
abbrev pub entry : List ℕ → List Float → ℕ → Entry Float
entry rows values p = record { row = row rows p; value = value values p }

module _ (rows : List ℕ) (nz : ℕ → Bool) where
  -- the entry at p is kept in column c: not above the diagonal, and not 0
  abbrev pub kept : ℕ → ℕ → Bool
  kept c p = leb c (row rows p) && nz p

  -- it is kept on the diagonal
  abbrev pub kept_diagonal : ℕ → ℕ → Bool
  kept_diagonal c p = eqb (row rows p) c && nz p

  -- it is kept below the diagonal
  abbrev pub kept_below : ℕ → ℕ → Bool
  kept_below c p = ltb c (row rows p) && nz p

  -- it is kept and has row r
  abbrev pub kept_row : ℕ → ℕ → ℕ → Bool
  kept_row r c p = eqb (row rows p) r && kept c p

module _ (starts rows : List ℕ) (nz : ℕ → Bool) where
  -- where the kept diagonal of column c is stored
  abbrev pub diagonal_places : ℕ → List ℕ
  diagonal_places c = select (kept_diagonal rows nz c) (start starts c) (start starts (c + 1))

  -- where its descendants are stored, ascending
  abbrev pub desc_places : ℕ → List ℕ
  desc_places c = select (kept_below rows nz c) (start starts c) (start starts (c + 1))

  -- the rows of the descendants of column c
  abbrev pub pattern : ℕ → List ℕ
  pattern c = map (row rows) (desc_places c)

  -- some stored entry of column c has row r and is kept
  unfoldable pub kept_pair : ℕ → ℕ → Bool
  kept_pair r c = any_in (kept_row rows nz r c) (start starts c) (start starts (c + 1))

  -- how many entries of column c are kept
  abbrev pub kept_count : ℕ → ℕ
  kept_count c = tally (kept rows nz c) (start starts c) (start starts (c + 1))

  -- how many entries of the first n columns are kept
  unfoldable pub factor_pairs : ℕ → ℕ
  factor_pairs n = sum_to kept_count n

module _ (starts rows : List ℕ) (values : List Float) where
  -- the diagonal of column c
  abbrev pub diag : ℕ → Float
  diag c = value values (get_or (diagonal_places starts rows (nonzero values) c) 0 0)

  -- the descendants of column c, each with its value
  abbrev pub desc : ℕ → List (Entry Float)
  desc c = map (entry rows values) (desc_places starts rows (nonzero values) c)
