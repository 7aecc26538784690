-- The lookup in lists that are taken to be a well-formed result: no column is read for its order, and the row's place is halved for.
-- On any lists it stays inside them and what it replies is defined; in a well-formed result it is the lookup.
-- Assumes nothing.
use Prim.Native.Nat.{ℕ, zero, suc, ◌+◌, ◌-◌, ◌/◌, max, min}
use Rattle.std.specs.Prelude.{List, eqb, ltb, length, Float}
use Rattle.std.proofs.Math.Bool.{cond}
use Rattle.std.proofs.Math.Dec.{leb}
use Rattle.std.specs.Float.{nan}
use Rattle.refusal.specs.Steps.{Reply, refused, answered}
use Rattle.columns.specs.Columns.{start, row}
use Rattle.result.specs.Place.{is_row}
use Rattle.result.specs.Lookup.{dimension, value_at}

-- of `size` places from base on: the middle one is taken for the base unless its row is above r, then the places left are halved again, at most k times
unfoldable pub halving_in : ℕ → List ℕ → ℕ → ℕ → ℕ → ℕ
halving_in zero rows r base size = base
halving_in (suc k) rows r base size =
    cond (leb size 1) base (halving_in k rows r (cond (leb (row rows (base + size / 2)) r) (base + size / 2) base) (size - size / 2))

-- until one is left
abbrev pub halving : List ℕ → ℕ → ℕ → ℕ → ℕ
halving rows r base size = halving_in size rows r base size

-- where r stands from s to below e if it does: in a run of rows one after the other at its distance from the first, else where halving ends
unfoldable pub candidate : List ℕ → ℕ → ℕ → ℕ → ℕ
candidate rows r s e = cond (eqb (row rows (e - 1) - row rows s) (e - 1 - s)) (s + (r - row rows s)) (halving rows r s (e - s))

-- place p if r stands there, else 8
unfoldable pub standing : List ℕ → ℕ → ℕ → Reply ℕ
standing rows r p = cond (is_row rows r p) (answered p) (refused 8)

-- the place of r from s to below e: the first, none where r is below the first row or above the last, else the candidate if r stands there
unfoldable pub halved_place : List ℕ → ℕ → ℕ → ℕ → Reply ℕ
halved_place rows r s e =
    cond (leb e s) (refused 8)
    (cond (is_row rows r s) (answered s)
    (cond (ltb r (row rows s)) (refused 8)
    (cond (ltb (row rows (e - 1)) r) (refused 8) (standing rows r (candidate rows r s e)))))

-- that place in column c, 8 where the column ends past the rows or past the values
unfoldable pub column_within : List ℕ → List ℕ → ℕ → ℕ → ℕ → Reply ℕ
column_within starts rows values r c =
    cond (ltb (length rows) (start starts (c + 1))) (refused 8)
    (cond (ltb values (start starts (c + 1))) (refused 8) (halved_place rows r (start starts c) (start starts (c + 1))))

-- the same, r at least c; 8 where r is outside
unfoldable pub place_within : List ℕ → List ℕ → ℕ → ℕ → ℕ → Reply ℕ
place_within starts rows values r c = cond (leb (dimension starts) r) (refused 8) (column_within starts rows values r c)

-- the same with row and column exchanged if row < column
abbrev pub lookup_place_within : List ℕ → List ℕ → ℕ → ℕ → ℕ → Reply ℕ
lookup_place_within starts rows values row col = place_within starts rows values (max row col) (min row col)

-- the value there
abbrev pub lookup_within_of : {A : Type 0} → A → List ℕ → List ℕ → List A → ℕ → ℕ → Reply A
lookup_within_of blank starts rows values row col = value_at blank values (lookup_place_within starts rows (length values) row col)

-- in lists of floats
abbrev pub lookup_within : List ℕ → List ℕ → List Float → ℕ → ℕ → Reply Float
lookup_within = lookup_within_of nan
