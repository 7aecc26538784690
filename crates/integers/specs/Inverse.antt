-- The inverse of L * Lᵀ for L = l / c, where l is of integers and lower triangular with no zero on its diagonal: integers P over one common denominator Q.
-- There is one, in integers where the diagonal is of ones; every one is symmetric; of P * l the part on and below the diagonal is known. Assumes nothing.
use Rattle.std.specs.Prelude.{◌≡◌, cond, eqb, pos, nat_abs, ◌-ℤ◌, ◌*ℤ◌}
use Prim.Native.Nat.{ℕ, zero, suc, ◌*◌, ◌<◌}
use Rattle.std.proofs.Math.IntN.{ℤ}
use Rattle.integers.specs.Sum.{Σℤ}
use Rattle.integers.specs.Matrix.{Matrix, identity, transpose, product, Same}

-- (l / c) * (l / c)ᵀ * (P / Q) is the identity, on indices below n: said with no fraction
pub record Inverse (n : ℕ) (c : ℤ) (l P : Matrix) (Q : ℕ) : Type 0 where
  pub positive : 0 < Q
  pub product_is : (i j : ℕ) → i < n → j < n → product n (product n l (transpose l)) P i j ≡ c *ℤ c *ℤ pos Q *ℤ identity i j

-- l * lᵀ * X is the identity, on indices below n
abbrev pub WholeInverse : ℕ → Matrix → Matrix → Type 0
WholeInverse n l X = Same n (product n (product n l (transpose l)) X) identity

-- the product of the first n entries of the diagonal
abbrev pub diagonal_product : Matrix → ℕ → ℤ
diagonal_product l zero = pos 1
diagonal_product l (suc n) = diagonal_product l n *ℤ l n n

-- y with l * y = diagonal-product l n * b, by forward substitution with no division
abbrev pub forward : Matrix → (ℕ → ℤ) → ℕ → ℕ → ℤ
forward l b zero k = pos 0
forward l b (suc n) k = cond (eqb k n) (diagonal_product l n *ℤ b n -ℤ Σℤ n (λ m. l n m *ℤ forward l b n m)) (l n n *ℤ forward l b n k)

-- M with l * M = M * l = diagonal-product l n times the identity
abbrev pub adjugate : ℕ → Matrix → Matrix
adjugate n l i j = forward l (λ k. identity k j) n i

-- an inverse's P: c² * Mᵀ * M
abbrev pub numerators : ℕ → ℤ → Matrix → Matrix
numerators n c l i j = c *ℤ c *ℤ product n (transpose (adjugate n l)) (adjugate n l) i j

-- and its Q: the square of the diagonal's product
abbrev pub denominator : ℕ → Matrix → ℕ
denominator n l = nat_abs (diagonal_product l n) * nat_abs (diagonal_product l n)
