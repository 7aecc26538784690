-- Laws of specs/Matrix.antt.
use Rattle.std.specs.Prelude.{◌≡◌, refl, Bool, cond, ◌⊎◌, ◌≢◌, ℕ, zero, suc, ◌≤◌, ◌<◌, max, min, ℤ, pos, ◌*ℤ◌}
use Rattle.std.proofs.Common.{sym, ◌∙◌, ap, ap₂, inl, inr, le_refl, le_of_lt, le_of_suc-le-suc, eq-or-lt_of_le, not-suc-le-zero, arith, eq-eqb, ne_eqb}
use Rattle.std.proofs.Math.Nat.{le_step}
use Rattle.std.proofs.Math.Decide.{ℕ_discrete, dec_le, dec_lt}
use Rattle.std.proofs.Math.IntN.{*ℤ-zero, *ℤ_comm, zero-*ℤ}
use Rattle.integers.proofs.Integer.{*ℤ-assoc, *ℤ-left-comm, *ℤ-idr, *ℤ-zero-cancel}
use Rattle.integers.specs.Sum.{Σℤ}
use Rattle.integers.proofs.Sum.{sum_cong, sum_mul_left, sum_mul_right, sum_swap, sum_single}
use Rattle.integers.specs.Matrix.{Matrix, identity, transpose, product, Same, LowerTriangular}

-- ---- the identity
pub identity_same : (i : ℕ) → identity i i ≡ pos 1
identity_same i = ap (λ (b : Bool). cond b (pos 1) (pos 0)) (eq-eqb i i refl)

pub identity_other : (i j : ℕ) → i ≢ j → identity i j ≡ pos 0
identity_other i j h = ap (λ (b : Bool). cond b (pos 1) (pos 0)) (ne_eqb i j h)

pub identity_sym : (i j : ℕ) → identity i j ≡ identity j i
identity_sym i j = elim (ℕ_discrete i j) [
  | yes e ↦ ap (λ (x : ℕ). identity x j) e ∙ ap (λ (x : ℕ). identity j x) (sym e)
  | no f ↦ identity_other i j f ∙ sym (identity_other j i (λ e. f (sym e)))
]

-- ---- a symmetric matrix: its indices may be put in order
pub symmetric_ordered : (n : ℕ) (P : Matrix) → ((i j : ℕ) → i < n → j < n → P i j ≡ P j i)
    → (row col : ℕ) → max row col < n → P (max row col) (min row col) ≡ P row col
symmetric_ordered n P symmetric row col h = elim (dec_le col row) [
  | yes l ↦
      let a : max row col ≡ row = omega arith in
      let b : min row col ≡ col = omega arith in
      ap₂ P a b
  | no l ↦
      let a : max row col ≡ col = omega arith in
      let b : min row col ≡ row = omega arith in
      ap₂ P a b ∙ symmetric col row (omega arith) (omega arith)
]

-- ---- the product
module _ (n : ℕ) where
  pub product_cong : (A A' B B' : Matrix) → Same n A A' → Same n B B' → Same n (product n A B) (product n A' B')
  product_cong A A' B B' p q i j hi hj =
      sum_cong n (λ k. A i k *ℤ B k j) (λ k. A' i k *ℤ B' k j) (λ k l. ap₂ ◌*ℤ◌ (p i k hi l) (q k j l hj))

  pub product_assoc : (A B C : Matrix) (i j : ℕ) → product n (product n A B) C i j ≡ product n A (product n B C) i j
  product_assoc A B C i j =
      sum_cong n (λ k. Σℤ n (λ m. A i m *ℤ B m k) *ℤ C k j) (λ k. Σℤ n (λ m. A i m *ℤ (B m k *ℤ C k j)))
      (λ k l.
      sum_mul_right n (C k j) (λ m. A i m *ℤ B m k)
      ∙ sum_cong n (λ m. A i m *ℤ B m k *ℤ C k j) (λ m. A i m *ℤ (B m k *ℤ C k j)) (λ m h. *ℤ-assoc (A i m) (B m k) (C k j)))
      ∙ sum_swap n n (λ k m. A i m *ℤ (B m k *ℤ C k j))
      ∙ sum_cong n (λ m. Σℤ n (λ k. A i m *ℤ (B m k *ℤ C k j))) (λ m. A i m *ℤ Σℤ n (λ k. B m k *ℤ C k j))
      (λ m h. sym (sum_mul_left n (A i m) (λ k. B m k *ℤ C k j)))

  pub product-transpose : (A B : Matrix) (i j : ℕ) → product n A B j i ≡ product n (transpose B) (transpose A) i j
  product-transpose A B i j = sum_cong n (λ k. A j k *ℤ B k i) (λ k. B k i *ℤ A j k) (λ k l. *ℤ_comm (A j k) (B k i))

  -- a multiple of a factor
  pub product_scale : (q : ℤ) (A B : Matrix) (i j : ℕ) → product n A (λ a b. q *ℤ B a b) i j ≡ q *ℤ product n A B i j
  product_scale q A B i j =
      sum_cong n (λ k. A i k *ℤ (q *ℤ B k j)) (λ k. q *ℤ (A i k *ℤ B k j)) (λ k kn. *ℤ-left-comm (A i k) q (B k j))
      ∙ sym (sum_mul_left n q (λ k. A i k *ℤ B k j))

  -- a multiple of the identity
  pub product_scale_left : (q : ℤ) (A : Matrix) (i j : ℕ) → i < n → product n (λ a b. q *ℤ identity a b) A i j ≡ q *ℤ A i j
  product_scale_left q A i j hi =
      sum_single n i (λ k. q *ℤ identity i k *ℤ A k j) hi
      (λ k l f.
      ap (λ (x : ℤ). q *ℤ x *ℤ A k j) (identity_other i k (λ e. f (sym e))) ∙ ap (λ (x : ℤ). x *ℤ A k j) (*ℤ-zero q) ∙ zero-*ℤ (A k j))
      ∙ ap (λ (x : ℤ). q *ℤ x *ℤ A i j) (identity_same i) ∙ ap (λ (x : ℤ). x *ℤ A i j) (*ℤ-idr q)

  pub product_scale_right : (q : ℤ) (A : Matrix) (i j : ℕ) → j < n → product n A (λ a b. q *ℤ identity a b) i j ≡ q *ℤ A i j
  product_scale_right q A i j hj =
      sum_single n j (λ k. A i k *ℤ (q *ℤ identity k j)) hj
      (λ k l f. ap (λ (x : ℤ). A i k *ℤ (q *ℤ x)) (identity_other k j f) ∙ ap (λ (x : ℤ). A i k *ℤ x) (*ℤ-zero q) ∙ *ℤ-zero (A i k))
      ∙ ap (λ (x : ℤ). A i j *ℤ (q *ℤ x)) (identity_same j) ∙ ap (λ (x : ℤ). A i j *ℤ x) (*ℤ-idr q) ∙ *ℤ_comm (A i j) q

-- ---- a lower triangular matrix times a vector
module _ (n : ℕ) (l : Matrix) (tr : LowerTriangular n l) where
  -- where w is zero above the index j, the row j of l * w has one term
  pub triangular-term : (w : ℕ → ℤ) (j : ℕ) → j < n → ((k : ℕ) → k < j → w k ≡ pos 0) → Σℤ n (λ k. l j k *ℤ w k) ≡ l j j *ℤ w j
  triangular-term w j jn z = sum_single n j (λ k. l j k *ℤ w k) jn other
    where
      above : (k : ℕ) → ¬ (k < j) → k ≢ j → j < k
      above k f ne = omega arith

      other : (k : ℕ) → k < n → k ≢ j → l j k *ℤ w k ≡ pos 0
      other k kn ne = elim (dec_lt k j) [
        | yes kj ↦ ap (λ (x : ℤ). l j k *ℤ x) (z k kj) ∙ *ℤ-zero (l j k)
        | no f ↦ ap (λ (x : ℤ). x *ℤ w k) (tr.lower j k (above k f ne) kn) ∙ zero-*ℤ (w k)
      ]

  -- where the first a rows of l * w are zero, so are the first a entries of w
  pub triangular_zero : (w : ℕ → ℤ) (a : ℕ) → a ≤ n → ((j : ℕ) → j < a → Σℤ n (λ k. l j k *ℤ w k) ≡ pos 0) → (j : ℕ) → j < a → w j ≡ pos 0
  triangular_zero w zero an h j ja = absurd (not-suc-le-zero ja)
  triangular_zero w (suc a) an h j ja =
      go (eq-or-lt_of_le (le_of_suc-le-suc ja)) (triangular_zero w a (le_of_lt an) (λ k ka. h k (le_step ka)))
    where
      go : (j ≡ a) ⊎ (j < a) → ((k : ℕ) → k < a → w k ≡ pos 0) → w j ≡ pos 0
      go (inr l') ih = ih j l'
      go (inl e) ih =
          ap w e
          ∙ *ℤ-zero-cancel (w a) (l a a) (tr.diagonal a an)
          (*ℤ_comm (w a) (l a a) ∙ sym (triangular-term w a an ih) ∙ h a (le_refl (suc a)))
