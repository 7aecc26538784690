-- Laws of specs/Exact.antt.
use Rattle.std.specs.Prelude.{◌≡◌, ◌≢◌, List, [], ◌∷◌, ℕ, ◌^◌, ◌≤◌, ◌<◌, ℤ, pos, neg_ℤ, ◌+ℤ◌, ◌-ℤ◌, ◌*ℤ◌, Float}
use Rattle.std.proofs.Common.{sym, ◌∙◌, ap, ap₂, subst, lt_of_le_of_lt}
use Rattle.std.proofs.Math.IntN.{zero-*ℤ}
use Rattle.std.specs.Float.{binary64}
use Rattle.std.specs.Float.Ieee.{low, add, mul, div, neg}
use Rattle.integers.proofs.Integer.{+ℤ-*ℤ, negℤ_*ℤ, *ℤ-assoc, *ℤ-cancel-r, *ℤ-nonzero}
use Rattle.takahashi.specs.Recurrence.{Entry, Each, run, dot, at, RecurrenceClosed, Solves}
use Rattle.takahashi.proofs.Recurrence.{closed_induction}
use Rattle.exact.specs.Multiple.{Multiple, Small, zero_float, one_float}
use Rattle.exact.proofs.Rounding.{unit_nonzero}
use Rattle.exact.proofs.Multiple.{multiple_mul, multiple_add, multiple_neg, multiple_sub, multiple_div, multiple_zero, multiple_one}
use Rattle.exact.specs.Exact.{integers, floats, float_off, float_on, Alike, Recurs, Products, RunningSums, Kept, Bounded, BoundedSums, Represents}

pub bounded_sums : {s : ℕ} {diag : ℕ → ℤ} {desc : ℕ → List (Entry ℤ)} {P : ℕ → ℕ → Type 0} {z : ℕ → ℕ → ℤ} → Bounded s diag desc P z → BoundedSums s desc P z
bounded_sums b = record {
  product_below = b.product_below;
  sum_below = b.sum_below;
  product_diagonal = b.product_diagonal;
  sum_diagonal = b.sum_diagonal;
}

-- ---- f64's running sums are the exact ones
module _ (s : ℕ) (sl : s ≤ low binary64) where
  plus_exact : (x y : Float) (p q : ℤ) → (Represents s sl) x p → (Represents s sl) y q → Kept s (p +ℤ q) → (Represents s sl) (add binary64 x y) (p +ℤ q)
  plus_exact x y p q a b k =
      let e : (a.0 +ℤ b.0) *ℤ pos (2 ^ s) ≡ p +ℤ q = +ℤ-*ℤ a.0 b.0 (pos (2 ^ s)) ∙ ap₂ ◌+ℤ◌ a.1 b.1 in
      let same : k.0 ≡ a.0 +ℤ b.0 = *ℤ-cancel-r k.0 (a.0 +ℤ b.0) (pos (2 ^ s)) (unit_nonzero s) (k.1 ∙ sym e) in
      (a.0 +ℤ b.0, e, multiple_add s sl x y a.0 b.0 a.2 b.2 (subst Small same k.2))

  times_exact : (x y : Float) (a b : ℤ) → Multiple s x a → Multiple s y b → Kept s (a *ℤ b) → (Represents s sl) (mul binary64 x y) (a *ℤ b)
  times_exact x y a b p q k = (k.0, k.1, multiple_mul s sl x y a b k.0 p q (sym k.1) k.2)

  run_exact : (r : ℕ → Float) (z : ℕ → ℤ) (x : Float) (p : ℤ) (fs : List (Entry Float)) (es : List (Entry ℤ)) → Alike s fs es
      → Each (λ k. Multiple s (r k) (z k)) es → Products (Kept s) z es → RunningSums (Kept s) z p es → (Represents s sl) x p
      → (Represents s sl) (run floats r x fs) (run integers z p es)
  run_exact r z x p [] [] al h ps ss v = v
  run_exact r z x p [] (e ∷ es) al h ps ss v = absurd al
  run_exact r z x p (f ∷ fs) [] al h ps ss v = absurd al
  run_exact r z x p (f ∷ fs) (e ∷ es) al h ps ss v =
      let y = mul binary64 f.value (r f.row) in
      let b = e.value *ℤ z e.row in
      let m : Multiple s (r f.row) (z e.row) = subst (λ (k : ℕ). Multiple s (r k) (z e.row)) (sym al.0) h.0 in
      let t : (Represents s sl) y b = times_exact f.value (r f.row) e.value (z e.row) al.1 m ps.0 in
      run_exact r z (add binary64 x y) (p +ℤ b) fs es al.2 h.1 ps.1 ss.1 (plus_exact x y p b v t ss.0)

  dot_exact : (r : ℕ → Float) (z : ℕ → ℤ) (fs : List (Entry Float)) (es : List (Entry ℤ)) → Alike s fs es
      → Each (λ k. Multiple s (r k) (z k)) es → Products (Kept s) z es → RunningSums (Kept s) z (pos 0) es → (Represents s sl) (dot floats r fs) (dot integers z es)
  dot_exact r z fs es al h ps ss = run_exact r z zero_float (pos 0) fs es al h ps ss (pos 0, zero-*ℤ (pos (2 ^ s)), multiple_zero s)

  -- ---- the last steps
  off_exact : (d S : Float) (b p z : ℤ) → Multiple s d b → b ≢ pos 0 → (Represents s sl) S p → z *ℤ b ≡ neg_ℤ p → Small z → Multiple s (float_off d S) z
  off_exact d S b p z hd b0 hs e h =
      multiple_div s sl (neg S) d (neg_ℤ hs.0) b z (multiple_neg s sl S hs.0 hs.2) hd b0
      (e ∙ ap neg_ℤ (sym hs.1) ∙ sym (negℤ_*ℤ hs.0 (pos (2 ^ s)))) h

  on_exact : (d S : Float) (b p z : ℤ) → Multiple s d b → b ≢ pos 0 → (Represents s sl) S p → Kept s (b *ℤ b)
      → ((r : ℤ) × (r *ℤ (b *ℤ b) ≡ pos (2 ^ s) *ℤ pos (2 ^ s) *ℤ pos (2 ^ s)) × Small r) → ((t : ℤ) × (t *ℤ b ≡ p) × Small t)
      → z *ℤ (b *ℤ b) ≡ pos (2 ^ s) *ℤ pos (2 ^ s) *ℤ pos (2 ^ s) -ℤ p *ℤ b → Small z → Multiple s (float_on d S) z
  on_exact d S b p z hd b0 hs k r t e h =
      let c = pos (2 ^ s) in
      let k0 : k.0 ≢ pos 0 = λ q. *ℤ-nonzero b b b0 b0 (sym k.1 ∙ ap (λ (x : ℤ). x *ℤ c) q ∙ zero-*ℤ c) in
      let square : Multiple s (mul binary64 d d) k.0 = multiple_mul s sl d d b b k.0 hd hd (sym k.1) k.2 in
      let rk : r.0 *ℤ k.0 ≡ c *ℤ c =
      *ℤ-cancel-r (r.0 *ℤ k.0) (c *ℤ c) c (unit_nonzero s) (*ℤ-assoc r.0 k.0 c ∙ ap (λ (x : ℤ). r.0 *ℤ x) k.1 ∙ r.1) in
      let first : Multiple s (div binary64 one_float (mul binary64 d d)) r.0 =
      multiple_div s sl one_float (mul binary64 d d) c k.0 r.0 (multiple_one s) square k0 rk r.2 in
      let second : Multiple s (div binary64 S d) t.0 = multiple_div s sl S d hs.0 b t.0 hs.2 hd b0 (t.1 ∙ sym hs.1) t.2 in
      let scaled : t.0 *ℤ (b *ℤ b) ≡ p *ℤ b = sym (*ℤ-assoc t.0 b b) ∙ ap (λ (x : ℤ). x *ℤ b) t.1 in
      let is : z ≡ r.0 -ℤ t.0 =
      *ℤ-cancel-r z (r.0 -ℤ t.0) (b *ℤ b) (*ℤ-nonzero b b b0 b0)
      (e ∙ sym (+ℤ-*ℤ r.0 (neg_ℤ t.0) (b *ℤ b) ∙ ap₂ ◌+ℤ◌ r.1 (negℤ_*ℤ t.0 (b *ℤ b) ∙ ap neg_ℤ scaled))) in
      subst (Multiple s (float_on d S)) (sym is)
      (multiple_sub s sl (div binary64 one_float (mul binary64 d d)) (div binary64 S d) r.0 t.0 first second (subst Small is h))

  -- ---- f64's entries are the exact ones
  -- whatever the last steps `off` and `on` are, where these are exact
  pub last_steps_exact : (n : ℕ) (desc : ℕ → List (Entry ℤ)) (P : ℕ → ℕ → Type 0) (z : ℕ → ℕ → ℤ) → RecurrenceClosed n desc P → BoundedSums s desc P z
      → (off on : Float → Float → Float) (fdiag : ℕ → Float) (fdesc : ℕ → List (Entry Float)) → ((j : ℕ) → j < n → Alike s (fdesc j) (desc j))
      → ((i j : ℕ) → P i j → j < i → (S : Float) → (Represents s sl) S (dot integers (λ k. at z i k) (desc j)) → Multiple s (off (fdiag j) S) (z i j))
      → ((j : ℕ) → P j j → (S : Float) → (Represents s sl) S (dot integers (λ k. z k j) (desc j)) → Multiple s (on (fdiag j) S) (z j j))
      → (Z : ℕ → ℕ → Float) → Solves floats off on fdiag fdesc P Z → (i j : ℕ) → P i j → Multiple s (Z i j) (z i j)
  last_steps_exact n desc P z closed sums off on fdiag fdesc alike below diagonal Z solves =
      closed_induction n desc P closed (λ i j. Multiple s (Z i j) (z i j))
      (λ i j p ji h.
      subst (λ (x : Float). Multiple s x (z i j)) (sym (solves.below_is i j p ji))
      (below i j p ji (dot floats (λ k. at Z i k) (fdesc j))
      (dot_exact (λ k. at Z i k) (λ k. at z i k) (fdesc j) (desc j) (alike j (column i j p)) h (sums.product_below i j p ji) (sums.sum_below i j p ji))))
      (λ j p h.
      subst (λ (x : Float). Multiple s x (z j j)) (sym (solves.diagonal_is j p))
      (diagonal j p (dot floats (λ k. Z k j) (fdesc j))
      (dot_exact (λ k. Z k j) (λ k. z k j) (fdesc j) (desc j) (alike j (column j j p)) h (sums.product_diagonal j p) (sums.sum_diagonal j p))))
    where
      column : (i j : ℕ) → P i j → j < n
      column i j p = lt_of_le_of_lt (closed.inside i j p).0 (closed.inside i j p).1

  -- with the last steps of a factor L with L * Lᵀ
  pub floats_exact : (n : ℕ) (diag : ℕ → ℤ) (desc : ℕ → List (Entry ℤ)) (P : ℕ → ℕ → Type 0) (z : ℕ → ℕ → ℤ)
      → ((j : ℕ) → j < n → diag j ≢ pos 0) → RecurrenceClosed n desc P → Recurs (pos (2 ^ s)) diag desc P z → Bounded s diag desc P z
      → (fdiag : ℕ → Float) (fdesc : ℕ → List (Entry Float))
      → ((j : ℕ) → j < n → Multiple s (fdiag j) (diag j)) → ((j : ℕ) → j < n → Alike s (fdesc j) (desc j))
      → (Z : ℕ → ℕ → Float) → Solves floats float_off float_on fdiag fdesc P Z → (i j : ℕ) → P i j → Multiple s (Z i j) (z i j)
  floats_exact n diag desc P z nonzero closed rec bounded fdiag fdesc diagonal alike Z solves =
      last_steps_exact n desc P z closed (bounded_sums bounded) float_off float_on fdiag fdesc alike
      (λ i j p ji S h.
      off_exact (fdiag j) S (diag j) (dot integers (λ k. at z i k) (desc j)) (z i j) (diagonal j (column i j p)) (nonzero j (column i j p)) h
      (rec.below_is i j p ji) (bounded.entry i j p))
      (λ j p S h.
      on_exact (fdiag j) S (diag j) (dot integers (λ k. z k j) (desc j)) (z j j) (diagonal j (column j j p)) (nonzero j (column j j p)) h
      (bounded.square j p) (bounded.reciprocal j p) (bounded.quotient j p) (rec.diagonal_is j p) (bounded.entry j j p))
      Z solves
    where
      column : (i j : ℕ) → P i j → j < n
      column i j p = lt_of_le_of_lt (closed.inside i j p).0 (closed.inside i j p).1
