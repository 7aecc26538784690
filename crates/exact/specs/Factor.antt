-- The factor that a diagonal and lists of the entries below it stand for, as a matrix of integers. Assumes nothing.
-- It is lower triangular, and a running sum over a list is a sum over the matrix's column.
use Rattle.std.specs.Prelude.{cond, List, [], ◌∷◌, ℕ, eqb, ℤ, pos}
use Rattle.integers.specs.Matrix.{Matrix}
use Rattle.takahashi.specs.Entries.{Entry}

-- the value at the row k, and 0 where there is none
abbrev pub find : ℕ → List (Entry ℤ) → ℤ
find k [] = pos 0
find k (e ∷ es) = cond (eqb k e.row) e.value (find k es)

-- the matrix with `diag` on its diagonal and the entries of `desc j` in the column j
abbrev pub factor : (ℕ → ℤ) → (ℕ → List (Entry ℤ)) → Matrix
factor diag desc i j = cond (eqb i j) (diag j) (find i (desc j))
