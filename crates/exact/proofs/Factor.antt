-- Laws of specs/Factor.antt.
use Rattle.std.specs.Prelude.{◌≡◌, refl, cond, ◌≢◌, List, [], ◌∷◌, ℕ, suc, ◌<◌, eqb, ℤ, pos, ◌+ℤ◌, ◌*ℤ◌}
use Rattle.std.proofs.Common.{sym, ◌∙◌, ap, ap₂, le_refl, ne_of_lt, lt_of_lt_of_le}
use Rattle.std.proofs.Math.Nat.{le_step}
use Rattle.std.proofs.Math.Decide.{ℕ_discrete}
use Rattle.std.proofs.Math.IntN.{+ℤ_assoc, +ℤ_comm, +ℤ_idl, +ℤ_idr, *ℤ_comm, zero-*ℤ}
use Rattle.integers.specs.Sum.{Σℤ}
use Rattle.integers.proofs.Sum.{sum_cong, sum_zero, sum_add, sum_single}
use Rattle.integers.specs.Matrix.{LowerTriangular}
use Rattle.takahashi.proofs.Choice.{cond_same, cond_other}
use Rattle.takahashi.specs.Entries.{Entry, Ascend}
use Rattle.takahashi.specs.Recurrence.{run, dot}
use Rattle.exact.specs.Exact.{integers}
use Rattle.exact.specs.Factor.{find, factor}

-- ---- what a list of ascending rows holds
pub find_below : (n a k : ℕ) (es : List (Entry ℤ)) → Ascend n a es → k < a → find k es ≡ pos 0
find_below n a k [] h l = refl
find_below n a k (e ∷ es) h l =
    let kr : k < e.row = lt_of_lt_of_le l h.0 in
    cond_other k e.row e.value (find k es) (ne_of_lt kr) ∙ find_below n (suc e.row) k es h.2 (le_step kr)

-- one entry's product, and the others'
find_sum : (n : ℕ) (r : ℕ → ℤ) (e : Entry ℤ) (es : List (Entry ℤ)) → e.row < n → find e.row es ≡ pos 0
    → Σℤ n (λ k. find k (e ∷ es) *ℤ r k) ≡ e.value *ℤ r e.row +ℤ Σℤ n (λ k. find k es *ℤ r k)
find_sum n r e es en z =
    sum_cong n (λ k. find k (e ∷ es) *ℤ r k) (λ k. one k +ℤ find k es *ℤ r k) (λ k kn. split k) ∙ sum_add n one (λ k. find k es *ℤ r k)
    ∙ ap (λ (x : ℤ). x +ℤ Σℤ n (λ k. find k es *ℤ r k))
    (sum_single n e.row one en (λ k kn ne. cond_other k e.row (e.value *ℤ r k) (pos 0) ne)
    ∙ cond_same e.row e.row (e.value *ℤ r e.row) (pos 0) refl)
  where
    one : ℕ → ℤ
    one k = cond (eqb k e.row) (e.value *ℤ r k) (pos 0)

    split : (k : ℕ) → find k (e ∷ es) *ℤ r k ≡ one k +ℤ find k es *ℤ r k
    split k = elim (ℕ_discrete k e.row) [
      | yes q ↦
          ap (λ (x : ℤ). x *ℤ r k) (cond_same k e.row e.value (find k es) q)
          ∙ sym (ap₂ (λ (x y : ℤ). x +ℤ y *ℤ r k) (cond_same k e.row (e.value *ℤ r k) (pos 0) q) (ap (λ (x : ℕ). find x es) q ∙ z)
          ∙ ap (λ (x : ℤ). e.value *ℤ r k +ℤ x) (zero-*ℤ (r k)) ∙ +ℤ_idr (e.value *ℤ r k))
      | no f ↦
          ap (λ (x : ℤ). x *ℤ r k) (cond_other k e.row e.value (find k es) f)
          ∙ sym (ap (λ (x : ℤ). x +ℤ find k es *ℤ r k) (cond_other k e.row (e.value *ℤ r k) (pos 0) f) ∙ +ℤ_idl (find k es *ℤ r k))
    ]

-- the running sum over a list is the sum over all rows
pub run-find : (n a : ℕ) (r : ℕ → ℤ) (S : ℤ) (es : List (Entry ℤ)) → Ascend n a es → run integers r S es ≡ S +ℤ Σℤ n (λ k. find k es *ℤ r k)
run-find n a r S [] h = sym (ap (λ (x : ℤ). S +ℤ x) (sum_zero n (λ k. pos 0 *ℤ r k) (λ k kn. zero-*ℤ (r k))) ∙ +ℤ_idr S)
run-find n a r S (e ∷ es) h =
    run-find n (suc e.row) r (S +ℤ e.value *ℤ r e.row) es h.2 ∙ +ℤ_assoc S (e.value *ℤ r e.row) (Σℤ n (λ k. find k es *ℤ r k))
    ∙ ap (λ (x : ℤ). S +ℤ x) (sym (find_sum n r e es h.1 (find_below n (suc e.row) e.row es h.2 (le_refl (suc e.row)))))

-- ---- the factor
module _ (n : ℕ) (diag : ℕ → ℤ) (desc : ℕ → List (Entry ℤ)) where
  pub factor_diagonal_lem : (j : ℕ) → factor diag desc j j ≡ diag j
  factor_diagonal_lem j = cond_same j j (diag j) (find j (desc j)) refl

  module _ (ascend : (j : ℕ) → j < n → Ascend n (suc j) (desc j)) where
    pub factor_triangular : ((j : ℕ) → j < n → diag j ≢ pos 0) → LowerTriangular n (factor diag desc)
    factor_triangular nonzero = record {
      diagonal = λ j jn e. nonzero j jn (sym (factor_diagonal_lem j) ∙ e);
      lower = λ i j ij jn. cond_other i j (diag j) (find i (desc j)) (ne_of_lt ij) ∙ find_below n (suc j) i (desc j) (ascend j jn) (le_step ij);
    }

    -- a column's running sum with the diagonal's product is the sum over the whole column
    pub factor_sum : (j : ℕ) (r : ℕ → ℤ) → j < n → dot integers r (desc j) +ℤ diag j *ℤ r j ≡ Σℤ n (λ k. r k *ℤ factor diag desc k j)
    factor_sum j r jn =
        let none : find j (desc j) ≡ pos 0 = find_below n (suc j) j (desc j) (ascend j jn) (le_refl (suc j)) in
        ap (λ (x : ℤ). x +ℤ diag j *ℤ r j) (run-find n (suc j) r (pos 0) (desc j) (ascend j jn) ∙ +ℤ_idl (Σℤ n (λ k. find k (desc j) *ℤ r k)))
        ∙ +ℤ_comm (Σℤ n (λ k. find k (desc j) *ℤ r k)) (diag j *ℤ r j) ∙ sym (find_sum n r (record { row = j; value = diag j }) (desc j) jn none)
        ∙ sum_cong n (λ k. factor diag desc k j *ℤ r k) (λ k. r k *ℤ factor diag desc k j) (λ k kn. *ℤ_comm (factor diag desc k j) (r k))
