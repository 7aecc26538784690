-- Laws of specs/PivotInverse.antt.
use Rattle.std.specs.Prelude.{◌≡◌, ◌≢◌, ℕ, ◌*◌, ◌<◌, ℤ, pos, nat_abs, ◌*ℤ◌}
use Rattle.std.proofs.Common.{sym, ◌∙◌, mul-pos}
use Rattle.std.proofs.Math.Path.{ap}
use Rattle.std.proofs.Math.IntN.{*ℤ-zero, zero-*ℤ}
use Rattle.integers.proofs.Integer.{*ℤ-cancel-l, *ℤ-nonzero, pos_nonzero, nat_abs_pos, products}
use Rattle.integers.proofs.Sum.{sum_cong, sum_mul_left}
use Rattle.integers.specs.Matrix.{Matrix, identity, transpose, product, Same, LowerTriangular}
use Rattle.integers.proofs.Matrix.{product_scale}
use Rattle.integers.specs.Inverse.{diagonal_product, adjugate}
use Rattle.integers.proofs.Inverse.{quotient_symmetric, quotient_below, quotient_diagonal, quotient_exists, diagonal_product-nonzero, square}
use Rattle.integers.specs.PivotInverse.{columns_by, PivotInverse, both, pivot_numerators, pivot_denominator}

-- ---- what holds of every one
module _ (n : ℕ) (c : ℤ) (c0 : c ≢ pos 0) (w : ℕ → ℤ) (w0 : (j : ℕ) → j < n → w j ≢ pos 0) (l : Matrix) (tr : LowerTriangular n l) (P : Matrix) (Q : ℕ)
    (inv : PivotInverse n c w l P Q) where
  q : ℤ
  q = c *ℤ c *ℤ c *ℤ pos Q

  q0 : q ≢ pos 0
  unfolding q
  q0 = *ℤ-nonzero (c *ℤ c *ℤ c) (pos Q) (*ℤ-nonzero (c *ℤ c) c (*ℤ-nonzero c c c0 c0) c0) (pos_nonzero Q inv.positive)

  A-sym : (i j : ℕ) → product n (columns_by w l) (transpose l) i j ≡ product n (columns_by w l) (transpose l) j i
  A-sym i j = sum_cong n (λ k. l i k *ℤ w k *ℤ l j k) (λ k. l j k *ℤ w k *ℤ l i k) (λ k kn. turn (l i k) (w k) (l j k))
    where
      turn : (a b c : ℤ) → a *ℤ b *ℤ c ≡ c *ℤ b *ℤ a
      turn a b c = simp products

  right : Same n (product n (product n (columns_by w l) (transpose l)) P) (λ i j. q *ℤ identity i j)
  unfolding q
  right = inv.product_is

  pub pivot_symmetric : (i j : ℕ) → i < n → j < n → P i j ≡ P j i
  pivot_symmetric = quotient_symmetric n q q0 (product n (columns_by w l) (transpose l)) A-sym P right

  -- P times the columns of l, each times its w
  by_column_lem : (i j : ℕ) → product n P (columns_by w l) i j ≡ w j *ℤ product n P l i j
  by_column_lem i j =
      sum_cong n (λ k. P i k *ℤ (l k j *ℤ w j)) (λ k. w j *ℤ (P i k *ℤ l k j)) (λ k kn. turn (P i k) (l k j) (w j))
      ∙ sym (sum_mul_left n (w j) (λ k. P i k *ℤ l k j))
    where
      turn : (a b c : ℤ) → a *ℤ (b *ℤ c) ≡ c *ℤ (a *ℤ b)
      turn a b c = simp products

  -- P * l is zero below the diagonal
  pub pivot_below : (i j : ℕ) → j < i → i < n → j < n → product n P l i j ≡ pos 0
  pivot_below i j ji hi hj =
      *ℤ-cancel-l (product n P l i j) (pos 0) (w j) (w0 j hj)
      (sym (by_column_lem i j) ∙ quotient_below n q q0 l (columns_by w l) tr A-sym P right i j ji hi ∙ sym (*ℤ-zero (w j)))

  -- and c³ * Q / (l j j * w j) on it
  pub pivot_diagonal : (j : ℕ) → j < n → l j j *ℤ (w j *ℤ product n P l j j) ≡ c *ℤ c *ℤ c *ℤ pos Q
  unfolding q
  pivot_diagonal j jn =
      ap (λ (x : ℤ). l j j *ℤ x) (sym (by_column_lem j j)) ∙ quotient_diagonal n q q0 l (columns_by w l) tr A-sym P right j jn

-- ---- there is one
module _ (n : ℕ) (c : ℤ) (w : ℕ → ℤ) (w0 : (j : ℕ) → j < n → w j ≢ pos 0) (l : Matrix) (tr : LowerTriangular n l) where
  columns_triangular : LowerTriangular n (columns_by w l)
  columns_triangular = record {
    diagonal = λ j jn. *ℤ-nonzero (l j j) (w j) (tr.diagonal j jn) (w0 j jn);
    lower = λ i j ij jn. ap (λ (x : ℤ). x *ℤ w j) (tr.lower i j ij jn) ∙ zero-*ℤ (w j);
  }

  pub pivot_inverse_exists : PivotInverse n c w l (pivot_numerators n c w w0 l tr) (pivot_denominator n c w w0 l tr)
  pivot_inverse_exists = record {
    positive = mul-pos above above;
    product_is = λ i j hi hj.
        product_scale n (c *ℤ c *ℤ c *ℤ (both n c w w0 l tr)) (product n (columns_by w l) (transpose l)) (product n (transpose (adjugate n l)) (adjugate n (columns_by w l))) i j
        ∙ ap (λ (x : ℤ). c *ℤ c *ℤ c *ℤ (both n c w w0 l tr) *ℤ x) (quotient_exists n l (columns_by w l) tr columns_triangular i j hi hj)
        ∙ turn (c *ℤ c *ℤ c) (diagonal_product l n) (diagonal_product (columns_by w l) n) (identity i j)
        ∙ ap (λ (x : ℤ). c *ℤ c *ℤ c *ℤ x *ℤ identity i j) (sym (square (both n c w w0 l tr)));
  }
    where
      above : 0 < nat_abs (both n c w w0 l tr)
      above =
          nat_abs_pos (both n c w w0 l tr)
          (*ℤ-nonzero (diagonal_product l n) (diagonal_product (columns_by w l) n) (diagonal_product-nonzero n l tr.diagonal)
          (diagonal_product-nonzero n (columns_by w l) columns_triangular.diagonal))

      turn : (c p r d : ℤ) → c *ℤ (p *ℤ r) *ℤ (p *ℤ (r *ℤ d)) ≡ c *ℤ (p *ℤ r *ℤ (p *ℤ r)) *ℤ d
      turn c p r d = simp products
