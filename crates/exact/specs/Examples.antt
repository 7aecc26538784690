-- Factors of two and three columns worked through: what the theorems ask can be met. Assumes nothing.
-- F2 and F3 have ones on the diagonal: f64's recurrence, the exact one and the inverse are computed. `sixteenths` is in multiples of 1 / 16.
-- The last factor's inverse has another fraction outside the set.
use Rattle.std.specs.Prelude.{List, [], ◌∷◌, ℕ, zero, suc, ℤ, pos, negsuc}
use Rattle.integers.specs.Matrix.{Matrix}
use Rattle.takahashi.specs.Recurrence.{Entry}

-- a list of one entry
abbrev pub one : {W : Type 0} → ℕ → W → List (Entry W)
one k l = record { row = k; value = l } ∷ []

-- a list of two entries
abbrev pub two : {W : Type 0} → ℕ → W → ℕ → W → List (Entry W)
two k l k' l' = record { row = k; value = l } ∷ record { row = k'; value = l' } ∷ []

-- ---- F2
-- starts 0 2 3, rows 0 1 1, values 1 2 1
abbrev pub f2_entries : ℕ → List (Entry ℤ)
f2_entries zero = one 1 (pos 2)
f2_entries (suc j) = []

-- the inverse of L * Lᵀ
abbrev pub f2_matrix : Matrix
f2_matrix zero zero = pos 5
f2_matrix zero (suc j) = negsuc 1
f2_matrix (suc i) zero = negsuc 1
f2_matrix (suc i) (suc j) = pos 1

-- ---- `dyadic` in sixteenths, s = 4: the factor with the rows 2 0 and 6 4, over all its pairs
-- the multipliers of its diagonal
abbrev pub sixteenths-diag : ℕ → ℤ
sixteenths-diag zero = pos 32
sixteenths-diag (suc j) = pos 64

-- of its entry below the diagonal
abbrev pub sixteenths : ℕ → List (Entry ℤ)
sixteenths zero = one 1 (pos 96)
sixteenths (suc j) = []

-- the entries' multipliers: the entries are 13 / 16, -3 / 16 and 1 / 16
abbrev pub sixteenths-z : Matrix
sixteenths-z zero j = pos 13
sixteenths-z (suc i) zero = negsuc 2
sixteenths-z (suc i) (suc j) = pos 1

-- an inverse of L * Lᵀ, which is 4 12 and 12 52: the whole numbers 13 -3 and -3 1 over 16
abbrev pub sixteenths_matrix : Matrix
sixteenths_matrix zero zero = pos 13
sixteenths_matrix zero (suc j) = negsuc 2
sixteenths_matrix (suc i) zero = negsuc 2
sixteenths_matrix (suc i) (suc j) = pos 1
