-- A result of starts, rows and values in compressed columns: the lookup of a pair, the diagonal list, and what each refuses.
-- Assumes nothing.
use Rattle.std.specs.Prelude.{ℕ, ◌+◌, ◌-◌, ◌<◌, max, min, Bool, true, false, not, List, [], ◌∷◌, ◌++◌, ltb, leb, eqb, length, get_or, Float}
use Rattle.std.specs.Float.{nan}
use Rattle.lists.specs.Sum.{bit}
use Rattle.lists.specs.Tabulate.{tabulate}
use Rattle.refusal.specs.Steps.{Step, Reply, refused, answered, first, settle, each}
use Rattle.columns.specs.Columns.{start, falls, unsorted}
use Rattle.columns.specs.Factor.{Column}
use Rattle.columns.specs.Kept.{f0}
use Rattle.result.specs.Place.{holds, place_of}

-- the number of columns: that of the starts less one
abbrev pub dimension : List ℕ → ℕ
dimension starts = length starts - 1

-- 2: no starts
abbrev pub no_starts : List ℕ → Step
no_starts starts = (2, eqb (length starts) 0)

-- 2: the starts of column c falling, or past rows or values; 3: a row of it not above the one before it. `values` is the number of values
unfoldable pub column_faults : List ℕ → List ℕ → ℕ → ℕ → List Step
column_faults starts rows values c =
    (2, falls starts c)
    ∷ (2, ltb (length rows) (start starts (c + 1)))
    ∷ (2, ltb values (start starts (c + 1)))
    ∷ (3, unsorted starts rows c)
    ∷ []

-- 8: row r is absent from column c
abbrev pub absent_step : List ℕ → List ℕ → ℕ → ℕ → Step
absent_step starts rows r c = (8, not (holds rows r (start starts c) (start starts (c + 1))))

-- what the lookup of row r and column c refuses before it searches, r at least c
unfoldable pub search_steps : List ℕ → List ℕ → ℕ → ℕ → ℕ → List Step
search_steps starts rows values r c =
    no_starts starts
    ∷ (8, leb (dimension starts) c)
    ∷ column_faults starts rows values c
    ++ (8, leb (dimension starts) r)
    ∷ []

-- all that it refuses
unfoldable pub entry_steps : List ℕ → List ℕ → ℕ → ℕ → ℕ → List Step
entry_steps starts rows values r c = search_steps starts rows values r c ++ absent_step starts rows r c ∷ []

-- the place that the lookup of row r and column c finds, r at least c: a refusal, or the row's place
unfoldable pub entry_place : List ℕ → List ℕ → ℕ → ℕ → ℕ → Reply ℕ
entry_place starts rows values r c = first (entry_steps starts rows values r c) (place_of rows r (start starts c) (start starts (c + 1)))

-- the same with row and column exchanged if row < column
abbrev pub lookup_place : List ℕ → List ℕ → ℕ → ℕ → ℕ → Reply ℕ
lookup_place starts rows values row col = entry_place starts rows values (max row col) (min row col)

-- a reply that is an answer
abbrev pub finds : {A : Type 0} → Reply A → Bool
finds (answered a) = true
finds (refused k) = false

module _ {A : Type 0} (blank : A) where
  -- the value at a place; `blank` stands for what lies past the end of a list
  abbrev pub value_at : List A → Reply ℕ → Reply A
  value_at values (refused k) = refused k
  value_at values (answered p) = answered (get_or values p blank)

  -- what the lookup of row r and column c replies, r at least c: a refusal, or the value at the row's place
  unfoldable pub entry_of : List ℕ → List ℕ → List A → ℕ → ℕ → Reply A
  entry_of starts rows values r c =
      first (entry_steps starts rows (length values) r c) (get_or values (place_of rows r (start starts c) (start starts (c + 1))) blank)

  -- the same with row and column exchanged if row < column
  abbrev pub lookup_of : List ℕ → List ℕ → List A → ℕ → ℕ → Reply A
  lookup_of starts rows values row col = entry_of starts rows values (max row col) (min row col)

  -- the diagonal of column c; `zero` where it is not covered
  abbrev pub diagonal_of : A → List ℕ → List ℕ → List A → ℕ → A
  diagonal_of zero starts rows values c = settle zero (lookup_of starts rows values c c)

  -- the mark of column c: 1 where the lookup finds (c, c), 0 where it does not
  abbrev pub mark_of : List ℕ → List ℕ → List A → ℕ → ℕ
  mark_of starts rows values c = bit (finds (lookup_of starts rows values c c))

-- the lookup in a result of floats
abbrev pub lookup : List ℕ → List ℕ → List Float → ℕ → ℕ → Reply Float
lookup = lookup_of nan

-- 2 and 3 of all columns, column by column
unfoldable pub result_steps : List ℕ → List ℕ → ℕ → List Step
result_steps starts rows values = no_starts starts ∷ each (column_faults starts rows values) (dimension starts)

-- those, then 7 for outputs of these lengths, of values and of marks, shorter than the diagonal
unfoldable pub diag_steps : List ℕ → List ℕ → ℕ → ℕ → ℕ → List Step
diag_steps starts rows values room marksRoom =
    result_steps starts rows values ++ (7, ltb room (dimension starts)) ∷ (7, ltb marksRoom (dimension starts)) ∷ []

-- the diagonal list: the lookup's value at (c, c), 0.0 where it is not covered
unfoldable pub diagonals : List ℕ → List ℕ → List Float → List Float
diagonals starts rows values = tabulate (diagonal_of nan f0 starts rows values) (dimension starts)

-- the marks of the diagonal list, byte by byte
unfoldable pub coverage : List ℕ → List ℕ → List Float → List ℕ
coverage starts rows values = tabulate (mark_of nan starts rows values) (dimension starts)

-- past 2 and 3: starts, and columns within rows and values whose rows ascend
pub record WellFormed (starts rows : List ℕ) (values : ℕ) : Type 0 where
  pub some : 0 < length starts
  pub column : (c : ℕ) → c < dimension starts → Column rows values (start starts c) (start starts (c + 1))
