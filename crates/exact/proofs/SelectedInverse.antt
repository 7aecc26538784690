-- Over a closed set of pairs, what solves the exact recurrence is the inverse: z / c is the entry of P / Q, for every inverse P / Q of L * Lᵀ in integers.
-- Nothing is asked of the entries outside the set. Assumes nothing.
use Rattle.std.specs.Prelude.{◌≡◌, ◌≢◌, List, [], ◌∷◌, ℕ, suc, ◌≤◌, ◌<◌, ℤ, pos, neg_ℤ, ◌+ℤ◌, ◌-ℤ◌, ◌*ℤ◌}
use Rattle.std.proofs.Common.{sym, ◌∙◌, ap, ap₂, le_of_lt, lt_trans, lt_of_le_of_lt, arith}
use Rattle.std.proofs.Math.Decide.{dec_lt}
use Rattle.std.proofs.Math.IntN.{+ℤ_comm, *ℤ-zero, zero-*ℤ, neg_ℤ-neg_ℤ, +ℤ-neg_ℤ_cancel}
use Rattle.integers.proofs.Integer.{+ℤ-*ℤ, *ℤ-+ℤ, negℤ_*ℤ, *ℤ-negℤ, *ℤ-assoc, *ℤ-left-comm, *ℤ-right-comm, negℤ_unique, *ℤ-cancel-r, *ℤ-nonzero, products}
use Rattle.integers.proofs.Sum.{sum_cong}
use Rattle.integers.specs.Matrix.{Matrix, product, LowerTriangular}
use Rattle.integers.specs.Inverse.{Inverse}
use Rattle.integers.proofs.Inverse.{inverse-symmetric, inverse_below, inverse_diagonal}
use Rattle.takahashi.specs.Entries.{Ascend}
use Rattle.takahashi.specs.Recurrence.{Entry, Each, run, dot, at, RecurrenceClosed}
use Rattle.takahashi.proofs.Recurrence.{at_sym, at_lower, closed_induction}
use Rattle.exact.specs.Exact.{integers, Recurs}
use Rattle.exact.specs.Factor.{factor}
use Rattle.exact.proofs.Factor.{factor_diagonal_lem, factor_triangular, factor_sum}

-- a sum of products scales with the entries
pub run_scale : (c q : ℤ) (z p : ℕ → ℤ) (a b : ℤ) (es : List (Entry ℤ)) → Each (λ k. z k *ℤ q ≡ c *ℤ p k) es → a *ℤ q ≡ c *ℤ b
    → run integers z a es *ℤ q ≡ c *ℤ run integers p b es
run_scale c q z p a b [] h ab = ab
run_scale c q z p a b (e ∷ es) h ab =
    run_scale c q z p (a +ℤ e.value *ℤ z e.row) (b +ℤ e.value *ℤ p e.row) es h.1
    (+ℤ-*ℤ a (e.value *ℤ z e.row) q
    ∙ ap₂ ◌+ℤ◌ ab
    (*ℤ-assoc e.value (z e.row) q ∙ ap (λ (x : ℤ). e.value *ℤ x) h.0 ∙ *ℤ-left-comm e.value c (p e.row))
    ∙ sym (*ℤ-+ℤ c b (e.value *ℤ p e.row)))

-- one entry: S is the sum over z's entries, T that over P's, d the diagonal, z and p the two entries
module _ (c q d S T z p : ℤ) (d0 : d ≢ pos 0) (scaled : S *ℤ q ≡ c *ℤ T) where
  pub below_entry : T +ℤ d *ℤ p ≡ pos 0 → z *ℤ d ≡ neg_ℤ S → z *ℤ q ≡ c *ℤ p
  below_entry h e =
      *ℤ-cancel-r (z *ℤ q) (c *ℤ p) d d0
      (*ℤ-right-comm z q d ∙ ap (λ (x : ℤ). x *ℤ q) e ∙ negℤ_*ℤ S q
      ∙ ap neg_ℤ (scaled ∙ ap (λ (x : ℤ). c *ℤ x) (negℤ_unique (d *ℤ p) T (+ℤ_comm (d *ℤ p) T ∙ h)) ∙ *ℤ-negℤ c (d *ℤ p))
      ∙ neg_ℤ-neg_ℤ (c *ℤ (d *ℤ p)) ∙ w c d p)
    where
      w : (c d p : ℤ) → c *ℤ (d *ℤ p) ≡ c *ℤ p *ℤ d
      w c d p = simp products

  diagonal_entry : d *ℤ (T +ℤ d *ℤ p) ≡ c *ℤ c *ℤ q → z *ℤ (d *ℤ d) ≡ c *ℤ c *ℤ c -ℤ S *ℤ d → z *ℤ q ≡ c *ℤ p
  diagonal_entry h e =
      *ℤ-cancel-r (z *ℤ q) (c *ℤ p) (d *ℤ d) (*ℤ-nonzero d d d0 d0)
      (*ℤ-right-comm z q (d *ℤ d) ∙ ap (λ (x : ℤ). x *ℤ q) e ∙ +ℤ-*ℤ (c *ℤ c *ℤ c) (neg_ℤ (S *ℤ d)) q
      ∙ ap₂ ◌+ℤ◌
      (w₁ c q ∙ ap (λ (x : ℤ). c *ℤ x) (sym h ∙ *ℤ-+ℤ d T (d *ℤ p)) ∙ *ℤ-+ℤ c (d *ℤ T) (d *ℤ (d *ℤ p)))
      (negℤ_*ℤ (S *ℤ d) q ∙ ap neg_ℤ (*ℤ-right-comm S d q ∙ ap (λ (x : ℤ). x *ℤ d) scaled ∙ w₂ c T d))
      ∙ ap (λ (x : ℤ). x -ℤ c *ℤ (d *ℤ T)) (+ℤ_comm (c *ℤ (d *ℤ T)) (c *ℤ (d *ℤ (d *ℤ p))))
      ∙ +ℤ-neg_ℤ_cancel (c *ℤ (d *ℤ (d *ℤ p))) (c *ℤ (d *ℤ T)) ∙ w₃ c d p)
    where
      w₁ : (c q : ℤ) → c *ℤ c *ℤ c *ℤ q ≡ c *ℤ (c *ℤ c *ℤ q)
      w₁ c q = simp products

      w₂ : (c T d : ℤ) → c *ℤ T *ℤ d ≡ c *ℤ (d *ℤ T)
      w₂ c T d = simp products

      w₃ : (c d p : ℤ) → c *ℤ (d *ℤ (d *ℤ p)) ≡ c *ℤ p *ℤ (d *ℤ d)
      w₃ c d p = simp products

-- a symmetric P, and a factor's column
module _ (n : ℕ) (diag : ℕ → ℤ) (desc : ℕ → List (Entry ℤ)) (ascend : (j : ℕ) → j < n → Ascend n (suc j) (desc j)) (P : Matrix)
    (symmetric : (i j : ℕ) → i < n → j < n → P i j ≡ P j i) where
  pub at_is : (i k : ℕ) → i < n → k < n → at P i k ≡ P i k
  at_is i k hi hk = elim (dec_lt i k) [
    | yes ik ↦ at_sym P i k ∙ at_lower P k i (le_of_lt ik) ∙ symmetric k i hk hi
    | no f ↦ at_lower P i k (other i k f)
  ]
    where
      other : (i k : ℕ) → ¬ (i < k) → k ≤ i
      other i k f = omega arith

  -- the sum over P's entries, with the diagonal's product
  pub column_product : (i j : ℕ) (r : ℕ → ℤ) → j < n → ((k : ℕ) → k < n → r k ≡ P i k) → dot integers r (desc j) +ℤ diag j *ℤ P i j ≡ product n P (factor diag desc) i j
  column_product i j r jn e =
      ap (λ (x : ℤ). dot integers r (desc j) +ℤ diag j *ℤ x) (sym (e j jn)) ∙ factor_sum n diag desc ascend j r jn
      ∙ sum_cong n (λ k. r k *ℤ factor diag desc k j) (λ k. P i k *ℤ factor diag desc k j) (λ k kn. ap (λ (x : ℤ). x *ℤ factor diag desc k j) (e k kn))

module _ (n : ℕ) (c : ℤ) (c0 : c ≢ pos 0) (diag : ℕ → ℤ) (desc : ℕ → List (Entry ℤ)) (nonzero : (j : ℕ) → j < n → diag j ≢ pos 0)
    (ascend : (j : ℕ) → j < n → Ascend n (suc j) (desc j)) (P : Matrix) (Q : ℕ) (inv : Inverse n c (factor diag desc) P Q) where
  triangular : LowerTriangular n (factor diag desc)
  triangular = factor_triangular n diag desc ascend nonzero

  symmetric : (i j : ℕ) → i < n → j < n → P i j ≡ P j i
  symmetric = inverse-symmetric n c c0 (factor diag desc) triangular P Q inv

  below_zero : (i j : ℕ) → j < i → i < n → dot integers (λ k. at P i k) (desc j) +ℤ diag j *ℤ P i j ≡ pos 0
  below_zero i j ji hi =
      column_product n diag desc ascend P symmetric i j (λ k. at P i k) (lt_trans ji hi) (λ k kn. at_is n diag desc ascend P symmetric i k hi kn) ∙ inverse_below n c c0 (factor diag desc) triangular P Q inv i j ji hi

  diagonal_square : (j : ℕ) → j < n → diag j *ℤ (dot integers (λ k. P k j) (desc j) +ℤ diag j *ℤ P j j) ≡ c *ℤ c *ℤ pos Q
  diagonal_square j jn =
      ap₂ ◌*ℤ◌ (sym (factor_diagonal_lem n diag desc j)) (column_product n diag desc ascend P symmetric j j (λ k. P k j) jn (λ k kn. symmetric k j kn jn))
      ∙ inverse_diagonal n c c0 (factor diag desc) triangular P Q inv j jn

  scale : (r s : ℕ → ℤ) (j : ℕ) → Each (λ k. r k *ℤ pos Q ≡ c *ℤ s k) (desc j) → dot integers r (desc j) *ℤ pos Q ≡ c *ℤ dot integers s (desc j)
  scale r s j h = run_scale c (pos Q) r s (pos 0) (pos 0) (desc j) h (zero-*ℤ (pos Q) ∙ sym (*ℤ-zero c))

  -- what solves the exact recurrence over a closed set is the inverse there
  pub recurs_inverse : (In : ℕ → ℕ → Type 0) → RecurrenceClosed n desc In → (z : Matrix) → Recurs c diag desc In z → (i j : ℕ) → In i j → z i j *ℤ pos Q ≡ c *ℤ P i j
  recurs_inverse In closed z rec =
      closed_induction n desc In closed (λ i j. z i j *ℤ pos Q ≡ c *ℤ P i j)
      (λ i j p ji h.
      below_entry c (pos Q) (diag j) (dot integers (λ k. at z i k) (desc j)) (dot integers (λ k. at P i k) (desc j)) (z i j) (P i j) (nonzero j (inside i j p))
      (scale (λ k. at z i k) (λ k. at P i k) j h) (below_zero i j ji (closed.inside i j p).1) (rec.below_is i j p ji))
      (λ j p h.
      diagonal_entry c (pos Q) (diag j) (dot integers (λ k. z k j) (desc j)) (dot integers (λ k. P k j) (desc j)) (z j j) (P j j) (nonzero j (inside j j p))
      (scale (λ k. z k j) (λ k. P k j) j h) (diagonal_square j (inside j j p)) (rec.diagonal_is j p))
    where
      inside : (i j : ℕ) → In i j → j < n
      inside i j p = lt_of_le_of_lt (closed.inside i j p).0 (closed.inside i j p).1
