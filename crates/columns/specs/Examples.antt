-- F2 and F3 of document 01, small broken factors and operators: what the definitions give, by computation.
-- Assumes nothing.
use Rattle.std.specs.Prelude.{ℕ, List, [], ◌∷◌, Float, pos}
use Rattle.std.specs.Float.{binary64}
use Rattle.std.specs.Float.Ieee.{of_int}

-- a whole number as a float
abbrev pub whole : ℕ → Float
whole k = of_int binary64 (pos k)

-- F2: starts, rows and values
abbrev pub f2_starts : List ℕ
f2_starts = 0 ∷ 2 ∷ 3 ∷ []

abbrev pub f2_rows : List ℕ
f2_rows = 0 ∷ 1 ∷ 1 ∷ []

abbrev pub f2_values : List Float
f2_values = whole 1 ∷ whole 2 ∷ whole 1 ∷ []

-- F3: starts, rows and values
abbrev pub f3_starts : List ℕ
f3_starts = 0 ∷ 3 ∷ 4 ∷ 5 ∷ []

abbrev pub f3_rows : List ℕ
f3_rows = 0 ∷ 1 ∷ 2 ∷ 1 ∷ 2 ∷ []

abbrev pub f3_values : List Float
f3_values = whole 1 ∷ whole 2 ∷ whole 3 ∷ whole 1 ∷ whole 1 ∷ []
