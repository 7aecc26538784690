-- Laws of specs/PivotMultiples.antt.
use Rattle.std.specs.Prelude.{◌≡◌, refl, ◌≢◌, List, ℕ, suc, ◌^◌, ◌≤◌, ◌<◌, max, min, ℤ, pos, neg_ℤ, ◌+ℤ◌, ◌-ℤ◌, ◌*ℤ◌, Float}
use Rattle.std.proofs.Common.{sym, ◌∙◌, ap, ap₂, subst, zero-lt-suc, lt_trans, lit≤}
use Rattle.std.proofs.Math.IntN.{+ℤ_comm, *ℤ-zero, zero-*ℤ, +ℤ-neg_ℤ_cancel}
use Rattle.std.specs.Float.{binary64}
use Rattle.std.specs.Float.Ieee.{low, div, neg}
use Rattle.integers.proofs.Integer.{+ℤ-*ℤ, *ℤ-+ℤ, negℤ_*ℤ, *ℤ-assoc, *ℤ-right-comm, *ℤ-cancel-r, *ℤ-nonzero, *ℤ-idl, *ℤ-idr, products}
use Rattle.integers.specs.Matrix.{Matrix, identity, transpose, product, LowerTriangular}
use Rattle.integers.proofs.Matrix.{product_cong, symmetric_ordered}
use Rattle.integers.specs.Inverse.{WholeInverse}
use Rattle.integers.specs.PivotInverse.{columns_by, PivotInverse, pivot_numerators, pivot_denominator}
use Rattle.integers.proofs.PivotInverse.{pivot_symmetric, pivot_below, pivot_diagonal, pivot_inverse_exists}
use Rattle.takahashi.specs.Entries.{Entry, Ascend}
use Rattle.takahashi.specs.Recurrence.{Each, dot, at, RecurrenceClosed, Solves}
use Rattle.takahashi.proofs.Recurrence.{closed_induction}
use Rattle.exact.specs.Multiple.{Multiple, Small, one_float}
use Rattle.exact.proofs.Multiple.{multiple_one, multiple_neg, multiple_sub, multiple_div}
use Rattle.exact.proofs.Rounding.{unit_nonzero}
use Rattle.exact.specs.Exact.{integers, floats, Alike, Represents}
use Rattle.exact.proofs.Exact.{bounded_sums, last_steps_exact}
use Rattle.exact.proofs.Factor.{factor_diagonal_lem, factor_triangular}
use Rattle.exact.proofs.SelectedInverse.{run_scale, below_entry, at_is, column_product}
use Rattle.exact.specs.ExactCase.{ones, unit_table, WithinBound}
use Rattle.exact.proofs.ExactCase.{unit_recurs, unit_bounded}
use Rattle.exact.specs.PivotCase.{pivot_off, pivot_on}
use Rattle.exact.specs.PivotMultiples.{PivotRecurs, PivotBounded, c, unit_factor}

-- ---- f64's last steps are the exact ones
module _ (s : ℕ) (sl : s ≤ low binary64) where
  off_multiple : (d S : Float) (p z : ℤ) → Represents s sl S p → z *ℤ pos (2 ^ s) ≡ neg_ℤ p → Multiple s (pivot_off d S) z
  off_multiple d S p z h e =
      subst (Multiple s (neg S))
      (sym (*ℤ-cancel-r z (neg_ℤ h.0) (pos (2 ^ s)) (unit_nonzero s) (e ∙ ap neg_ℤ (sym h.1) ∙ sym (negℤ_*ℤ h.0 (pos (2 ^ s))))))
      (multiple_neg s sl S h.0 h.2)

  on_multiple : (d S : Float) (w p z : ℤ) → Multiple s d w → w ≢ pos 0 → Represents s sl S p → ((r : ℤ) × (r *ℤ w ≡ pos (2 ^ s) *ℤ pos (2 ^ s)) × Small r)
      → z *ℤ pos (2 ^ s) *ℤ w ≡ pos (2 ^ s) *ℤ pos (2 ^ s) *ℤ pos (2 ^ s) -ℤ p *ℤ w → Small z → Multiple s (pivot_on d S) z
  on_multiple d S w p z hd w0 hs r e h =
      let c = pos (2 ^ s) in
      let first : Multiple s (div binary64 one_float d) r.0 = multiple_div s sl one_float d c w r.0 (multiple_one s) hd w0 r.1 r.2 in
      let is : z ≡ r.0 -ℤ hs.0 =
      *ℤ-cancel-r z (r.0 -ℤ hs.0) (c *ℤ w) (*ℤ-nonzero c w (unit_nonzero s) w0)
      (turn z c w ∙ e
      ∙ ap₂ ◌+ℤ◌ (ap (λ (x : ℤ). x *ℤ c) (sym r.1) ∙ turn₂ r.0 w c)
      (ap neg_ℤ (ap (λ (x : ℤ). x *ℤ w) (sym hs.1) ∙ sym (turn hs.0 c w)) ∙ sym (negℤ_*ℤ hs.0 (c *ℤ w)))
      ∙ sym (+ℤ-*ℤ r.0 (neg_ℤ hs.0) (c *ℤ w))) in
      subst (Multiple s (pivot_on d S)) (sym is) (multiple_sub s sl (div binary64 one_float d) S r.0 hs.0 first hs.2 (subst Small is h))
    where
      turn : (a b d : ℤ) → a *ℤ (b *ℤ d) ≡ a *ℤ b *ℤ d
      turn a b d = simp products

      turn₂ : (a b d : ℤ) → a *ℤ b *ℤ d ≡ a *ℤ (d *ℤ b)
      turn₂ a b d = simp products

-- ---- one entry of the inverse, on the diagonal: S is the sum over z's entries, T that over P's, w the pivot, z and p the two entries
pivot_entry : (c q w S T z p : ℤ) → c *ℤ w ≢ pos 0 → S *ℤ q ≡ c *ℤ T → c *ℤ (w *ℤ (T +ℤ c *ℤ p)) ≡ c *ℤ c *ℤ c *ℤ q
    → z *ℤ c *ℤ w ≡ c *ℤ c *ℤ c -ℤ S *ℤ w → z *ℤ q ≡ c *ℤ p
pivot_entry c q w S T z p cw0 scaled h e =
    *ℤ-cancel-r (z *ℤ q) (c *ℤ p) (c *ℤ w) cw0
    (w₁ z q c w ∙ ap (λ (x : ℤ). x *ℤ q) e ∙ +ℤ-*ℤ (c *ℤ c *ℤ c) (neg_ℤ (S *ℤ w)) q
    ∙ ap₂ ◌+ℤ◌
    (sym h ∙ ap (λ (x : ℤ). c *ℤ x) (*ℤ-+ℤ w T (c *ℤ p)) ∙ *ℤ-+ℤ c (w *ℤ T) (w *ℤ (c *ℤ p)))
    (negℤ_*ℤ (S *ℤ w) q ∙ ap neg_ℤ (*ℤ-right-comm S w q ∙ ap (λ (x : ℤ). x *ℤ w) scaled ∙ w₂ c T w))
    ∙ ap (λ (x : ℤ). x -ℤ c *ℤ (w *ℤ T)) (+ℤ_comm (c *ℤ (w *ℤ T)) (c *ℤ (w *ℤ (c *ℤ p))))
    ∙ +ℤ-neg_ℤ_cancel (c *ℤ (w *ℤ (c *ℤ p))) (c *ℤ (w *ℤ T)) ∙ w₃ c w p)
  where
    w₁ : (z q c w : ℤ) → z *ℤ q *ℤ (c *ℤ w) ≡ z *ℤ c *ℤ w *ℤ q
    w₁ z q c w = simp products

    w₂ : (c T w : ℤ) → c *ℤ T *ℤ w ≡ c *ℤ (w *ℤ T)
    w₂ c T w = simp products

    w₃ : (c w p : ℤ) → c *ℤ (w *ℤ (c *ℤ p)) ≡ c *ℤ p *ℤ (c *ℤ w)
    w₃ c w p = simp products

-- ---- ones on L's diagonal and ones as pivots, in whole numbers: s = 0
pub unit_pivot_recurs : (n : ℕ) (desc : ℕ → List (Entry ℤ)) → ((j : ℕ) → j < n → Ascend n (suc j) (desc j)) → (In : ℕ → ℕ → Type 0) → RecurrenceClosed n desc In
    → PivotRecurs (pos 1) ones desc In (unit_table n desc)
unit_pivot_recurs n desc ascend In closed =
    let rec = unit_recurs n desc ascend In closed in
    record {
      below_is = rec.below_is;
      diagonal_is = λ j p. *ℤ-assoc (unit_table n desc j j) (pos 1) (pos 1) ∙ rec.diagonal_is j p;
    }

pub unit_pivot_bounded : (n : ℕ) (desc : ℕ → List (Entry ℤ)) (In : ℕ → ℕ → Type 0) → WithinBound n desc In → PivotBounded 0 ones desc In (unit_table n desc)
unit_pivot_bounded n desc In within = record {
  entry = within.entry;
  sums = bounded_sums (unit_bounded n desc In within);
  reciprocal = λ j p. (pos 1, refl, lit≤ tt);
}

-- an inverse of L * Lᵀ in whole numbers is one of L * D * Lᵀ with ones as pivots
pub whole_pivot_inverse : (n : ℕ) (l X : Matrix) → WholeInverse n l X → PivotInverse n (pos 1) ones l X 1
whole_pivot_inverse n l X is = record {
  positive = zero-lt-suc 0;
  product_is = λ i j hi hj.
      product_cong n (product n (columns_by ones l) (transpose l)) (product n l (transpose l)) X X
      (product_cong n (columns_by ones l) l (transpose l) (transpose l) (λ a b p r. *ℤ-idr (l a b)) (λ a b p r. refl)) (λ a b p r. refl) i j hi hj
      ∙ is i j hi hj ∙ sym (*ℤ-idl (identity i j));
}

-- ---- multiples of 2 ^ -s: L has the multipliers `desc` below its diagonal of ones, and `w` are those of the pivots
module _ (s n : ℕ) (w : ℕ → ℤ) (desc : ℕ → List (Entry ℤ)) (nonzero : (j : ℕ) → j < n → w j ≢ pos 0)
    (ascend : (j : ℕ) → j < n → Ascend n (suc j) (desc j)) where
  triangular : LowerTriangular n (unit_factor s n w desc nonzero ascend)
  triangular = factor_triangular n (λ j. (c s n w desc nonzero ascend)) desc ascend (λ j jn. unit_nonzero s)

  -- L * D * Lᵀ has an inverse P / Q, in whole numbers over one common denominator
  pub has_pivot_inverse : (P : Matrix) × (Q : ℕ) × PivotInverse n (c s n w desc nonzero ascend) w (unit_factor s n w desc nonzero ascend) P Q
  has_pivot_inverse = (
    pivot_numerators n (c s n w desc nonzero ascend) w nonzero (unit_factor s n w desc nonzero ascend) triangular,
    pivot_denominator n (c s n w desc nonzero ascend) w nonzero (unit_factor s n w desc nonzero ascend) triangular,
    pivot_inverse_exists n (c s n w desc nonzero ascend) w nonzero (unit_factor s n w desc nonzero ascend) triangular,
  )

  module _ (P : Matrix) (Q : ℕ) (inv : PivotInverse n (c s n w desc nonzero ascend) w (unit_factor s n w desc nonzero ascend) P Q) where
    pub pivots_symmetric : (i j : ℕ) → i < n → j < n → P i j ≡ P j i
    pivots_symmetric = pivot_symmetric n (c s n w desc nonzero ascend) (unit_nonzero s) w nonzero (unit_factor s n w desc nonzero ascend) triangular P Q inv

    pub pivots_ordered : (row col : ℕ) → max row col < n → P (max row col) (min row col) ≡ P row col
    pivots_ordered = symmetric_ordered n P pivots_symmetric

    below_zero : (i j : ℕ) → j < i → i < n → dot integers (λ k. at P i k) (desc j) +ℤ (c s n w desc nonzero ascend) *ℤ P i j ≡ pos 0
    below_zero i j ji hi =
        column_product n (λ j. (c s n w desc nonzero ascend)) desc ascend P pivots_symmetric i j (λ k. at P i k) (lt_trans ji hi) (λ k kn. at_is n (λ j. (c s n w desc nonzero ascend)) desc ascend P pivots_symmetric i k hi kn)
        ∙ pivot_below n (c s n w desc nonzero ascend) (unit_nonzero s) w nonzero (unit_factor s n w desc nonzero ascend) triangular P Q inv i j ji hi (lt_trans ji hi)

    diagonal_cube : (j : ℕ) → j < n → (c s n w desc nonzero ascend) *ℤ (w j *ℤ (dot integers (λ k. P k j) (desc j) +ℤ (c s n w desc nonzero ascend) *ℤ P j j)) ≡ (c s n w desc nonzero ascend) *ℤ (c s n w desc nonzero ascend) *ℤ (c s n w desc nonzero ascend) *ℤ pos Q
    diagonal_cube j jn =
        ap₂ (λ (a b : ℤ). a *ℤ (w j *ℤ b)) (sym (factor_diagonal_lem n (λ j. (c s n w desc nonzero ascend)) desc j))
        (column_product n (λ j. (c s n w desc nonzero ascend)) desc ascend P pivots_symmetric j j (λ k. P k j) jn (λ k kn. pivots_symmetric k j kn jn))
        ∙ pivot_diagonal n (c s n w desc nonzero ascend) (unit_nonzero s) w nonzero (unit_factor s n w desc nonzero ascend) triangular P Q inv j jn

    scale : (r t : ℕ → ℤ) (j : ℕ) → Each (λ k. r k *ℤ pos Q ≡ (c s n w desc nonzero ascend) *ℤ t k) (desc j) → dot integers r (desc j) *ℤ pos Q ≡ (c s n w desc nonzero ascend) *ℤ dot integers t (desc j)
    scale r t j h = run_scale (c s n w desc nonzero ascend) (pos Q) r t (pos 0) (pos 0) (desc j) h (zero-*ℤ (pos Q) ∙ sym (*ℤ-zero (c s n w desc nonzero ascend)))

    -- what solves the exact recurrence over a closed set is the inverse there
    pub pivot_recurs_inverse : (In : ℕ → ℕ → Type 0) → RecurrenceClosed n desc In → (z : Matrix) → PivotRecurs (c s n w desc nonzero ascend) w desc In z
        → (i j : ℕ) → In i j → z i j *ℤ pos Q ≡ (c s n w desc nonzero ascend) *ℤ P i j
    pivot_recurs_inverse In closed z rec =
        closed_induction n desc In closed (λ i j. z i j *ℤ pos Q ≡ (c s n w desc nonzero ascend) *ℤ P i j)
        (λ i j p ji h.
        below_entry (c s n w desc nonzero ascend) (pos Q) (c s n w desc nonzero ascend) (dot integers (λ k. at z i k) (desc j)) (dot integers (λ k. at P i k) (desc j)) (z i j) (P i j) (unit_nonzero s)
        (scale (λ k. at z i k) (λ k. at P i k) j h) (below_zero i j ji (closed.inside i j p).1) (rec.below_is i j p ji))
        (λ j p h.
        pivot_entry (c s n w desc nonzero ascend) (pos Q) (w j) (dot integers (λ k. z k j) (desc j)) (dot integers (λ k. P k j) (desc j)) (z j j) (P j j)
        (*ℤ-nonzero (c s n w desc nonzero ascend) (w j) (unit_nonzero s) (nonzero j (closed.inside j j p).1))
        (scale (λ k. z k j) (λ k. P k j) j h) (diagonal_cube j (closed.inside j j p).1) (rec.diagonal_is j p))

    -- where the exact recurrence keeps to multiples of 2 ^ -s by at most 2 ^ 53 over the set, f64's entries are its own, z / 2 ^ s, and these are the inverse's
    pub pivot_dyadic : s ≤ low binary64 → (In : ℕ → ℕ → Type 0) → RecurrenceClosed n desc In → (z : Matrix) → PivotRecurs (c s n w desc nonzero ascend) w desc In z → PivotBounded s w desc In z
        → (pivots : ℕ → Float) (fdesc : ℕ → List (Entry Float))
        → ((j : ℕ) → j < n → Multiple s (pivots j) (w j)) → ((j : ℕ) → j < n → Alike s (fdesc j) (desc j))
        → (Z : ℕ → ℕ → Float) → Solves floats pivot_off pivot_on pivots fdesc In Z
        → (i j : ℕ) → In i j → Multiple s (Z i j) (z i j) × (z i j *ℤ pos Q ≡ (c s n w desc nonzero ascend) *ℤ P i j)
    pivot_dyadic sl In closed z rec bounded pivots fdesc are alike Z solves i j p = (
      last_steps_exact s sl n desc In z closed bounded.sums pivot_off pivot_on pivots fdesc alike
          (λ i j p ji S h. off_multiple s sl (pivots j) S (dot integers (λ k. at z i k) (desc j)) (z i j) h (rec.below_is i j p ji))
          (λ j p S h.
          on_multiple s sl (pivots j) S (w j) (dot integers (λ k. z k j) (desc j)) (z j j) (are j (closed.inside j j p).1) (nonzero j (closed.inside j j p).1) h
          (bounded.reciprocal j p) (rec.diagonal_is j p) (bounded.entry j j p))
          Z solves i j p,
      pivot_recurs_inverse In closed z rec i j p,
    )
