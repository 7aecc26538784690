-- Laws of specs/Inverse.antt.
use Rattle.std.specs.Prelude.{◌≡◌, refl, Bool, cond, ◌⊎◌, ◌≢◌, pos, negsuc, neg_ℤ, nat_abs, ◌+ℤ◌, ◌-ℤ◌, ◌*ℤ◌}
use Rattle.std.proofs.Math.Path.{sym}
use Rattle.std.proofs.Common.{◌∙◌, ap, ap₂, subst, inl, inr, le_refl, le_of_lt, le_of_suc-le-suc, eq-or-lt_of_le, not-suc-le-zero, ne_of_lt, ne_of_gt, mul-pos, lt_trans, eq-eqb, ne_eqb}
use Prim.Native.Nat.{ℕ, zero, suc, ◌*◌, ◌<◌}
use Rattle.std.proofs.Math.Nat.{le_step}
use Rattle.std.proofs.Math.IntN.{ℤ, +ℤ_comm, +ℤ_idr, +ℤ_invr, *ℤ_comm, *ℤ-zero, zero-*ℤ, -ℤ-+ℤ_cancel}
use Rattle.integers.proofs.Integer.{*ℤ-left-comm, *ℤ-+ℤ, *ℤ-negℤ, +ℤ-cancel-r, *ℤ-cancel-l, *ℤ-nonzero, pos_nonzero, nat_abs_pos, *ℤ-idl, *ℤ-idr, products}
use Rattle.integers.specs.Sum.{Σℤ}
use Rattle.integers.proofs.Sum.{sum_cong, sum_mul_left, sum_add, sum_neg}
use Rattle.integers.specs.Matrix.{Matrix, identity, transpose, product, Same, LowerTriangular}
use Rattle.integers.proofs.Matrix.{identity_same, identity_other, identity_sym}
use Rattle.integers.proofs.Matrix.{product_cong, product_assoc, product-transpose, product_scale, product_scale_left, product_scale_right}
use Rattle.integers.proofs.Matrix.{triangular-term, triangular_zero}
use Rattle.integers.specs.Inverse.{Inverse, WholeInverse, diagonal_product, forward, adjugate, numerators, denominator}

-- ---- what holds of every P with A * P = q times the identity, A symmetric
module _ (n : ℕ) (q : ℤ) (q0 : q ≢ pos 0) (A : Matrix) (A-sym : (i j : ℕ) → A i j ≡ A j i) (P : Matrix)
    (right : Same n (product n A P) (λ i j. q *ℤ identity i j)) where
  -- P transposed is a left inverse
  left : Same n (product n (transpose P) A) (λ i j. q *ℤ identity i j)
  left i j hi hj =
      product-transpose n (transpose P) A j i
      ∙ product_cong n (transpose A) A P P (λ a b p r. A-sym b a) (λ a b p r. refl) j i hj hi
      ∙ right j i hj hi ∙ ap (λ (x : ℤ). q *ℤ x) (identity_sym j i)

  -- so it is P
  pub quotient_symmetric : (i j : ℕ) → i < n → j < n → P i j ≡ P j i
  quotient_symmetric i j hi hj =
      *ℤ-cancel-l (P i j) (P j i) q q0
      (sym (product_scale_left n q P i j hi)
      ∙ product_cong n (λ a b. q *ℤ identity a b) (product n (transpose P) A) P P (λ a b p r. sym (left a b p r)) (λ a b p r. refl) i j hi hj
      ∙ product_assoc n (transpose P) A P i j
      ∙ product_cong n (transpose P) (transpose P) (product n A P) (λ a b. q *ℤ identity a b) (λ a b p r. refl) right i j hi hj
      ∙ product_scale_right n q (transpose P) i j hj)

-- A = m * lᵀ
module _ (n : ℕ) (q : ℤ) (q0 : q ≢ pos 0) (l m : Matrix) (tr : LowerTriangular n l)
    (A-sym : (i j : ℕ) → product n m (transpose l) i j ≡ product n m (transpose l) j i) (P : Matrix)
    (right : Same n (product n (product n m (transpose l)) P) (λ i j. q *ℤ identity i j)) where
  -- l times a row of P * m is that row of q times the identity
  rows : (i j : ℕ) → i < n → j < n → Σℤ n (λ k. l j k *ℤ product n P m i k) ≡ q *ℤ identity i j
  rows i j hi hj =
      sum_cong n (λ k. l j k *ℤ product n P m i k) (λ k. product n P m i k *ℤ l j k) (λ k kn. *ℤ_comm (l j k) (product n P m i k))
      ∙ product_assoc n P m (transpose l) i j
      ∙ product_cong n P (transpose P) (product n m (transpose l)) (product n m (transpose l))
      (λ a b p r. quotient_symmetric n q q0 (product n m (transpose l)) A-sym P right a b p r) (λ a b p r. refl) i j hi hj
      ∙ left n q q0 (product n m (transpose l)) A-sym P right i j hi hj

  -- P * m is zero below the diagonal
  pub quotient_below : (i j : ℕ) → j < i → i < n → product n P m i j ≡ pos 0
  quotient_below i j ji hi =
      triangular_zero n l tr (λ k. product n P m i k) i (le_of_lt hi)
      (λ k ki. rows i k hi (lt_trans ki hi) ∙ ap (λ (x : ℤ). q *ℤ x) (identity_other i k (ne_of_gt ki)) ∙ *ℤ-zero q)
      j ji

  -- and q / l j j on it
  pub quotient_diagonal : (j : ℕ) → j < n → l j j *ℤ product n P m j j ≡ q
  quotient_diagonal j jn =
      sym (triangular-term n l tr (λ k. product n P m j k) j jn (λ k kj. quotient_below j k kj jn))
      ∙ rows j j jn jn ∙ ap (λ (x : ℤ). q *ℤ x) (identity_same j) ∙ *ℤ-idr q

-- ---- what holds of every inverse
module _ (n : ℕ) (c : ℤ) (c0 : c ≢ pos 0) (l : Matrix) (tr : LowerTriangular n l) (P : Matrix) (Q : ℕ) (inv : Inverse n c l P Q) where
  q : ℤ
  q = c *ℤ c *ℤ pos Q

  q0 : q ≢ pos 0
  unfolding q
  q0 = *ℤ-nonzero (c *ℤ c) (pos Q) (*ℤ-nonzero c c c0 c0) (pos_nonzero Q inv.positive)

  A-sym : (i j : ℕ) → product n l (transpose l) i j ≡ product n l (transpose l) j i
  A-sym i j = product-transpose n l (transpose l) j i

  right : Same n (product n (product n l (transpose l)) P) (λ i j. q *ℤ identity i j)
  unfolding q
  right = inv.product_is

  pub inverse-symmetric : (i j : ℕ) → i < n → j < n → P i j ≡ P j i
  inverse-symmetric = quotient_symmetric n q q0 (product n l (transpose l)) A-sym P right

  -- P * l is zero below the diagonal
  pub inverse_below : (i j : ℕ) → j < i → i < n → product n P l i j ≡ pos 0
  inverse_below = quotient_below n q q0 l l tr A-sym P right

  -- and c² * Q / l j j on it
  pub inverse_diagonal : (j : ℕ) → j < n → l j j *ℤ product n P l j j ≡ c *ℤ c *ℤ pos Q
  unfolding q
  inverse_diagonal = quotient_diagonal n q q0 l l tr A-sym P right

-- ---- there is one
turn : (d p b : ℤ) → d *ℤ (p *ℤ b) ≡ p *ℤ d *ℤ b
turn d p b = simp products

pub forward_solves : (n : ℕ) (l : Matrix) → ((i j : ℕ) → i < j → j < n → l i j ≡ pos 0) → (b : ℕ → ℤ) (i : ℕ) → i < n
    → Σℤ n (λ k. l i k *ℤ forward l b n k) ≡ diagonal_product l n *ℤ b i
forward_solves zero l low b i h = absurd (not-suc-le-zero h)
forward_solves (suc n) l low b i h =
    ap₂ ◌+ℤ◌
    (sum_cong n (λ k. l i k *ℤ forward l b (suc n) k) (λ k. d *ℤ (l i k *ℤ y k))
    (λ k kn. ap (λ (t : Bool). l i k *ℤ cond t new (d *ℤ y k)) (ne_eqb k n (ne_of_lt kn)) ∙ *ℤ-left-comm (l i k) d (y k))
    ∙ sym (sum_mul_left n d (λ k. l i k *ℤ y k)))
    (ap (λ (t : Bool). l i n *ℤ cond t new (d *ℤ y n)) (eq-eqb n n refl))
    ∙ go (eq-or-lt_of_le (le_of_suc-le-suc h)) (forward_solves n l (λ a c ac cn. low a c ac (le_step cn)) b i)
  where
    d : ℤ
    d = l n n

    y : ℕ → ℤ
    y = forward l b n

    p : ℤ
    p = diagonal_product l n

    S : ℤ
    S = Σℤ n (λ m. l n m *ℤ y m)

    new : ℤ
    new = p *ℤ b n -ℤ S

    last : (p b d S : ℤ) → d *ℤ S +ℤ d *ℤ (p *ℤ b -ℤ S) ≡ p *ℤ d *ℤ b
    last p b d S =
        sym (*ℤ-+ℤ d S (p *ℤ b -ℤ S)) ∙ ap (λ (x : ℤ). d *ℤ x) (+ℤ_comm S (p *ℤ b -ℤ S) ∙ -ℤ-+ℤ_cancel (p *ℤ b) S) ∙ turn d p b

    first : (p b d x z : ℤ) → x ≡ p *ℤ b → z ≡ pos 0 → d *ℤ x +ℤ z *ℤ new ≡ p *ℤ d *ℤ b
    first p b d x z e f =
        ap₂ (λ (u v : ℤ). d *ℤ u +ℤ v *ℤ new) e f ∙ ap (λ (u : ℤ). d *ℤ (p *ℤ b) +ℤ u) (zero-*ℤ new) ∙ +ℤ_idr (d *ℤ (p *ℤ b)) ∙ turn d p b

    go : (i ≡ n) ⊎ (i < n) → (i < n → Σℤ n (λ k. l i k *ℤ y k) ≡ p *ℤ b i) → d *ℤ Σℤ n (λ k. l i k *ℤ y k) +ℤ l i n *ℤ new ≡ p *ℤ d *ℤ b i
    go (inr l') ih = first p (b i) d (Σℤ n (λ k. l i k *ℤ y k)) (l i n) (ih l') (low i n l' (le_refl (suc n)))
    go (inl e) ih = subst (λ (a : ℕ). d *ℤ Σℤ n (λ k. l a k *ℤ y k) +ℤ l a n *ℤ new ≡ p *ℤ d *ℤ b a) (sym e) (last p (b n) d S)

pub diagonal_product-nonzero : (n : ℕ) (l : Matrix) → ((j : ℕ) → j < n → l j j ≢ pos 0) → diagonal_product l n ≢ pos 0
diagonal_product-nonzero zero l h = pos_nonzero 1 (le_refl 1)
diagonal_product-nonzero (suc n) l h =
    *ℤ-nonzero (diagonal_product l n) (l n n) (diagonal_product-nonzero n l (λ j jn. h j (le_step jn))) (h n (le_refl (suc n)))

pub square : (p : ℤ) → pos (nat_abs p * nat_abs p) ≡ p *ℤ p
square (pos n) = refl
square (negsuc n) = refl

-- l * M = M * l = p times the identity, p the diagonal's product
module _ (n : ℕ) (l : Matrix) (tr : LowerTriangular n l) where
  p : ℤ
  p = diagonal_product l n

  M : Matrix
  M = adjugate n l

  pub adjugate_right : Same n (product n l (adjugate n l)) (λ i j. diagonal_product l n *ℤ identity i j)
  adjugate_right i j hi hj = forward_solves n l tr.lower (λ k. identity k j) i hi

  pub adjugate_left : Same n (product n (adjugate n l) l) (λ i j. diagonal_product l n *ℤ identity i j)
  unfolding p M
  adjugate_left k j hk hj =
      +ℤ-cancel-r (neg_ℤ (p *ℤ identity k j)) (triangular_zero n l tr w n (le_refl n) zeros k hk ∙ sym (+ℤ_invr (p *ℤ identity k j)))
    where
      w : ℕ → ℤ
      w k = product n M l k j -ℤ p *ℤ identity k j

      zeros : (i : ℕ) → i < n → Σℤ n (λ k. l i k *ℤ w k) ≡ pos 0
      zeros i hi =
          sum_cong n (λ k. l i k *ℤ w k) (λ k. l i k *ℤ product n M l k j +ℤ neg_ℤ (l i k *ℤ (p *ℤ identity k j)))
          (λ k kn.
          *ℤ-+ℤ (l i k) (product n M l k j) (neg_ℤ (p *ℤ identity k j))
          ∙ ap (λ (x : ℤ). l i k *ℤ product n M l k j +ℤ x) (*ℤ-negℤ (l i k) (p *ℤ identity k j)))
          ∙ sum_add n (λ k. l i k *ℤ product n M l k j) (λ k. neg_ℤ (l i k *ℤ (p *ℤ identity k j)))
          ∙ ap₂ ◌+ℤ◌
          (sym (product_assoc n l M l i j)
          ∙ product_cong n (product n l M) (λ a b. p *ℤ identity a b) l l adjugate_right (λ a b r t. refl) i j hi hj
          ∙ product_scale_left n p l i j hi)
          (sum_neg n (λ k. l i k *ℤ (p *ℤ identity k j)) ∙ ap neg_ℤ (product_scale_right n p l i j hj))
          ∙ +ℤ_invr (p *ℤ l i j)

-- for l and m lower triangular: m * lᵀ * (Mᵀ * N) is both products of the diagonals times the identity, M and N as `adjugate` has them of l and of m
module _ (n : ℕ) (l m : Matrix) (tl : LowerTriangular n l) (tm : LowerTriangular n m) where
  inner : Same n (product n (transpose l) (product n (transpose (adjugate n l)) (adjugate n m))) (λ i j. diagonal_product l n *ℤ adjugate n m i j)
  inner i j hi hj =
      sym (product_assoc n (transpose l) (transpose (adjugate n l)) (adjugate n m) i j)
      ∙ product_cong n (product n (transpose l) (transpose (adjugate n l))) (λ a b. diagonal_product l n *ℤ identity a b) (adjugate n m) (adjugate n m)
      (λ a b r t.
      sym (product-transpose n (adjugate n l) l a b) ∙ adjugate_left n l tl b a t r ∙ ap (λ (x : ℤ). diagonal_product l n *ℤ x) (identity_sym b a))
      (λ a b r t. refl) i j hi hj
      ∙ product_scale_left n (diagonal_product l n) (adjugate n m) i j hi

  pub quotient_exists : Same n (product n (product n m (transpose l)) (product n (transpose (adjugate n l)) (adjugate n m)))
      (λ i j. diagonal_product l n *ℤ (diagonal_product m n *ℤ identity i j))
  quotient_exists i j hi hj =
      product_assoc n m (transpose l) (product n (transpose (adjugate n l)) (adjugate n m)) i j
      ∙ product_cong n m m (product n (transpose l) (product n (transpose (adjugate n l)) (adjugate n m))) (λ a b. diagonal_product l n *ℤ adjugate n m a b)
      (λ a b r t. refl) inner i j hi hj
      ∙ product_scale n (diagonal_product l n) m (adjugate n m) i j ∙ ap (λ (x : ℤ). diagonal_product l n *ℤ x) (adjugate_right n m tm i j hi hj)

pub inverse_exists : (n : ℕ) (c : ℤ) (l : Matrix) → LowerTriangular n l → Inverse n c l (numerators n c l) (denominator n l)
inverse_exists n c l tr = record {
  positive = mul-pos above above;
  product_is = λ i j hi hj.
      product_scale n (c *ℤ c) (product n l (transpose l)) (product n (transpose (adjugate n l)) (adjugate n l)) i j
      ∙ ap (λ (x : ℤ). c *ℤ c *ℤ x) (quotient_exists n l l tr tr i j hi hj)
      ∙ w (c *ℤ c) (diagonal_product l n) (identity i j) ∙ ap (λ (x : ℤ). c *ℤ c *ℤ x *ℤ identity i j) (sym (square (diagonal_product l n)));
}
  where
    above : 0 < nat_abs (diagonal_product l n)
    above = nat_abs_pos (diagonal_product l n) (diagonal_product-nonzero n l tr.diagonal)

    w : (c p d : ℤ) → c *ℤ (p *ℤ (p *ℤ d)) ≡ c *ℤ (p *ℤ p) *ℤ d
    w c p d = simp products

-- ---- with ones on the diagonal the inverse is in integers
pub diagonal_product_one : (n : ℕ) (l : Matrix) → ((j : ℕ) → j < n → l j j ≡ pos 1) → diagonal_product l n ≡ pos 1
diagonal_product_one zero l h = refl
diagonal_product_one (suc n) l h = ap₂ ◌*ℤ◌ (diagonal_product_one n l (λ j jn. h j (le_step jn))) (h n (le_refl (suc n)))

pub unit_inverse_exists : (n : ℕ) (l : Matrix) → LowerTriangular n l → ((j : ℕ) → j < n → l j j ≡ pos 1)
    → WholeInverse n l (numerators n (pos 1) l)
unit_inverse_exists n l tr h i j hi hj =
    (inverse_exists n (pos 1) l tr).product_is i j hi hj
    ∙ ap (λ (x : ℤ). pos 1 *ℤ pos (nat_abs x * nat_abs x) *ℤ identity i j) (diagonal_product_one n l h) ∙ *ℤ-idl (identity i j)
