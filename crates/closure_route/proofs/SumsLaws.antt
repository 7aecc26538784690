-- Laws of specs/Sums.antt.
use Prim.Native.Nat.{ℕ, zero, suc, ◌+◌, ◌-◌, ◌≤◌, ◌<◌}
use native.Mathlib.Omega.{arith}
use Rattle.std.specs.Prelude.{◌≡◌, refl, Bool, true, false, Float}
use Rattle.std.proofs.Math.Path.{sym, ap}
use Rattle.std.proofs.Common.{subst, ◌∙◌}
use mathlib.Core.List.{List, [], ◌∷◌, ◌++◌, map-append}
use Rattle.std.specs.Float.{binary64}
use Rattle.std.specs.Float.Ieee.{of_bits, add, mul}
use Rattle.lists.specs.Select.{one, select, select_none, select_next}
use Rattle.columns.specs.Columns.{row, value}
use Rattle.columns.specs.Kept.{f0, nonzero, kept_below, entry}
use Rattle.takahashi.specs.Recurrence.{Arithmetic, Entry, run, dot}
use Rattle.exact.specs.Multiple.{zero_float}
use Rattle.exact.specs.Exact.{floats}
use Rattle.closure_route.specs.Sums.{entries_at, with_product, sum_between}

-- ---- the sum

run-append : (A : Arithmetic) (r : ℕ → A.Carrier) (S : A.Carrier) (es fs : List (Entry A.Carrier)) → run A r S (es ++ fs) ≡ run A r (run A r S es) fs
run-append A r S [] fs = refl
run-append A r S (e ∷ es) fs = run-append A r (A.plus S (A.times e.value (r e.row))) es fs

zero_is : f0 ≡ zero_float
unfolding of_bits
zero_is = refl

module _ (rows : List ℕ) (values : List Float) (j : ℕ) (r : ℕ → Float) (s : ℕ) where
  pub sum_between_none : f0 ≡ sum_between rows values j r s s
  unfolding sum_between
  sum_between_none = rw (select_none (kept_below rows (nonzero values) j) s) zero_is

  pub sum_between_next : (p : ℕ) → s ≤ p → sum_between rows values j r s (p + 1) ≡ with_product rows values j r p (sum_between rows values j r s p)
  unfolding sum_between
  sum_between_next p h =
      let test = kept_below rows (nonzero values) j in
      ap (λ (l : List ℕ). dot floats r (entries_at rows values l)) (select_next test s p h)
      ∙ ap (dot floats r) (map-append (entry rows values) (select test s p) (one (test p) p))
      ∙ run-append floats r zero_float (entries_at rows values (select test s p)) _

module _ (rows : List ℕ) (values : List Float) (j : ℕ) (r r' : ℕ → Float) where
  -- a product needs the inverse's entry at its row alone, if it is kept
  pub product_same : (p : ℕ) (sum : Float) → (kept_below rows (nonzero values) j p ≡ true → r (row rows p) ≡ r' (row rows p))
      → with_product rows values j r p sum ≡ with_product rows values j r' p sum
  product_same p sum h = go (kept_below rows (nonzero values) j p) refl
    where
      go : (b : Bool) → kept_below rows (nonzero values) j p ≡ b
          → run floats r sum (entries_at rows values (one b p)) ≡ run floats r' sum (entries_at rows values (one b p))
      go true t = ap (λ (x : Float). add binary64 sum (mul binary64 (value values p) x)) (h t)
      go false t = refl

module _ (rows : List ℕ) (values : List Float) (j : ℕ) (r r' : ℕ → Float) (s : ℕ) where
  same_to : (m : ℕ) → ((p : ℕ) → s ≤ p → p < s + m → kept_below rows (nonzero values) j p ≡ true → r (row rows p) ≡ r' (row rows p))
      → sum_between rows values j r s (s + m) ≡ sum_between rows values j r' s (s + m)
  unfolding sum_between
  same_to zero h =
      let q : s + 0 ≡ s = omega arith in
      ap (λ (e : ℕ). sum_between rows values j r s e) q
      ∙ ap (λ (l : List ℕ). dot floats r (entries_at rows values l)) (select_none (kept_below rows (nonzero values) j) s)
      ∙ sym (ap (λ (l : List ℕ). dot floats r' (entries_at rows values l)) (select_none (kept_below rows (nonzero values) j) s))
      ∙ ap (λ (e : ℕ). sum_between rows values j r' s e) (sym q)
  same_to (suc m) h = other (same_to m (λ p lo hi. h p lo (omega arith)))
    where
      q : s + suc m ≡ s + m + 1
      q = omega arith

      other : sum_between rows values j r s (s + m) ≡ sum_between rows values j r' s (s + m)
          → sum_between rows values j r s (s + suc m) ≡ sum_between rows values j r' s (s + suc m)
      other before =
          ap (λ (e : ℕ). sum_between rows values j r s e) q ∙ sum_between_next rows values j r s (s + m) (omega arith)
          ∙ ap (with_product rows values j r (s + m)) before
          ∙ product_same rows values j r r' (s + m) (sum_between rows values j r' s (s + m)) (h (s + m) (omega arith) (omega arith))
          ∙ sym (ap (λ (e : ℕ). sum_between rows values j r' s e) q ∙ sum_between_next rows values j r' s (s + m) (omega arith))

  -- the sum needs the inverse's entries at the kept rows alone
  pub sum_between_cong : (e : ℕ) → s ≤ e → ((p : ℕ) → s ≤ p → p < e → kept_below rows (nonzero values) j p ≡ true → r (row rows p) ≡ r' (row rows p))
      → sum_between rows values j r s e ≡ sum_between rows values j r' s e
  sum_between_cong e h same =
      let q : s + (e - s) ≡ e = omega arith in
      subst (λ (x : ℕ). sum_between rows values j r s x ≡ sum_between rows values j r' s x) q (same_to (e - s) (λ p lo hi. same p lo (omega arith)))
