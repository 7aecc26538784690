-- Matrices of integers as functions of two indices, used on indices below n. Equality is said on those indices alone. Assumes nothing.
use Rattle.std.specs.Prelude.{◌≡◌, cond, ◌≢◌, ℕ, ◌<◌, eqb, ℤ, pos, ◌*ℤ◌}
use Rattle.integers.specs.Sum.{Σℤ}

-- the entry in row i and column j
abbrev pub Matrix : Type 0
Matrix = ℕ → ℕ → ℤ

-- ones on the diagonal, zeros elsewhere
abbrev pub identity : Matrix
identity i j = cond (eqb i j) (pos 1) (pos 0)

-- rows and columns exchanged
abbrev pub transpose : Matrix → Matrix
transpose A i j = A j i

-- the product of two n by n matrices
abbrev pub product : ℕ → Matrix → Matrix → Matrix
product n A B i j = Σℤ n (λ k. A i k *ℤ B k j)

-- equal on indices below n
abbrev pub Same : ℕ → Matrix → Matrix → Type 0
Same n A B = (i j : ℕ) → i < n → j < n → A i j ≡ B i j

-- zeros above the diagonal, and none on it
pub record LowerTriangular (n : ℕ) (l : Matrix) : Type 0 where
  pub diagonal : (j : ℕ) → j < n → l j j ≢ pos 0
  pub lower : (i j : ℕ) → i < j → j < n → l i j ≡ pos 0
