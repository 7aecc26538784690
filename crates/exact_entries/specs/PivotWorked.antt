-- F2 of document 01 with the pivots 2 and 4, in quarters: the hypotheses of the exact case of L * D * Lᵀ are met, with s = 2, and the inverse's entries
-- 3 / 2, -1 / 2 and 1 / 4 read back. With pivots of 1 it is the case s = 0.
-- Assumes nothing.
use Rattle.std.specs.Prelude.{ℕ, zero, suc, List, [], ◌∷◌, ℤ, pos, negsuc, Float}
use Rattle.columns.specs.Columns.{value}
use Rattle.columns.specs.Examples.{whole}
use Rattle.integers.specs.Matrix.{Matrix}
use Rattle.takahashi.specs.Entries.{Entry}
use Rattle.exact.specs.Factor.{factor}

-- F2 with the pivots 2 and 4, the request (0, 0) and limit 3
abbrev pub two-four : List Float
two-four = whole 2 ∷ whole 4 ∷ []

-- ---- in multiples of 1 / 4: the pivots', those of the entry below the diagonal, and those of the inverse's entries
abbrev pub quarters_pivots : ℕ → ℤ
quarters_pivots zero = pos 8
quarters_pivots (suc j) = pos 16

abbrev pub quarters_entries : ℕ → List (Entry ℤ)
quarters_entries zero = record { row = 1; value = pos 8 } ∷ []
quarters_entries (suc j) = []

abbrev pub quarters-z : Matrix
quarters-z zero j = pos 6
quarters-z (suc i) zero = negsuc 1
quarters-z (suc i) (suc j) = pos 1

-- ---- an inverse of L * D * Lᵀ, which is 2 4 and 4 12: the whole numbers 6 -2 and -2 1 over 4
abbrev pub quarters_matrix : Matrix
quarters_matrix zero zero = pos 6
quarters_matrix zero (suc j) = negsuc 1
quarters_matrix (suc i) zero = negsuc 1
quarters_matrix (suc i) (suc j) = pos 1

abbrev pub unit_factor_lem : Matrix
unit_factor_lem = factor (λ j. pos 4) quarters_entries
