-- The inverse of L * D * Lᵀ for L = l / c and D = w / c, where l is of integers and lower triangular with no zero on its diagonal, and w a diagonal of integers
-- other than 0: integers P over one common denominator Q, as for L * Lᵀ. There is one; every one is symmetric; of P * l the part on and below the diagonal is known.
-- Assumes nothing.
use Rattle.std.specs.Prelude.{◌≡◌, ◌≢◌, ℕ, ◌*◌, ◌<◌, ℤ, pos, nat_abs, ◌*ℤ◌}
use Rattle.integers.specs.Matrix.{Matrix, identity, transpose, product, LowerTriangular}
use Rattle.integers.specs.Inverse.{diagonal_product, adjugate}

-- l with each column times its w
abbrev pub columns_by : (ℕ → ℤ) → Matrix → Matrix
columns_by w l i j = l i j *ℤ w j

-- (l / c) * (w / c) * (l / c)ᵀ * (P / Q) is the identity, on indices below n: said with no fraction
pub record PivotInverse (n : ℕ) (c : ℤ) (w : ℕ → ℤ) (l P : Matrix) (Q : ℕ) : Type 0 where
  pub positive : 0 < Q
  pub product_is : (i j : ℕ) → i < n → j < n → product n (product n (columns_by w l) (transpose l)) P i j ≡ c *ℤ c *ℤ c *ℤ pos Q *ℤ identity i j

-- ---- there is one
module _ (n : ℕ) (c : ℤ) (w : ℕ → ℤ) (w0 : (j : ℕ) → j < n → w j ≢ pos 0) (l : Matrix) (tr : LowerTriangular n l) where
  -- both products of the diagonals
  abbrev pub both : ℤ
  both = diagonal_product l n *ℤ diagonal_product (columns_by w l) n

  -- c³ * both * Mᵀ * N, M and N as of l and of its columns times w
  abbrev pub pivot_numerators : Matrix
  pivot_numerators i j = c *ℤ c *ℤ c *ℤ both *ℤ product n (transpose (adjugate n l)) (adjugate n (columns_by w l)) i j

  abbrev pub pivot_denominator : ℕ
  pivot_denominator = nat_abs both * nat_abs both
