-- A sum of the recurrence over stored entries, entry by entry.
-- Assumes nothing.
use Prim.Native.Nat.{ℕ, ◌+◌, ◌≤◌, ◌<◌}
use native.Mathlib.Omega.{arith}
use mathlib.Core.Path.{◌≡◌, refl, sym, ap, ◌∙◌}
use mathlib.Core.Bool.{Bool, true, false, cond, ◌&&◌}
use mathlib.Core.List.{List, [], ◌∷◌, map, map-append}
use lib.IntN.{ℤ, pos, ◌+ℤ◌, ◌*ℤ◌}
use borrow.Author.Tests.{le-ltb, lt-ltb}
use Rattle.lists.specs.Select.{one, select, select_none, select_next}
use Rattle.refusal.specs.Steps.{Reply, refused, answered}
use Rattle.columns.specs.Columns.{row}
use Rattle.columns.specs.Kept.{kept_below}
use Rattle.takahashi.specs.Entries.{Entry}
use Rattle.exact.specs.Checked.{beyond}
use Rattle.exact.proofs.Checked.{within_small}
use Rattle.exact.specs.Checked.{plus_product, checked_run, checked_dot}
use Rattle.exact.proofs.Checked.{checked-append}
use Rattle.columns.specs.WholeFactor.{whole_value, whole_nonzero, whole_stored}
use Rattle.whole_route.specs.Sums.{with_entry, whole_sum, TermInput, WholeSumInput}
use Rattle.whole_route.specs.Number.{SmallNumber}

pub term_input : {n i j s e : ℕ} {rows : List ℕ} {values : List ℤ} {scratch : List ℕ} {inverse : List ℤ} → WholeSumInput n i j s e rows values scratch inverse
    → (p : ℕ) → s ≤ p → p < e → TermInput n i j p rows values scratch inverse
term_input S p lo hi = record {
  small = S.small;
  left = S.left;
  stored = omega (arith, S.column.stored);
  weighed = omega (arith, S.column.weighed);
  inside = S.inside p lo hi;
  room = S.room;
  known = S.known p lo hi;
  factor_small = S.factor_small p lo hi;
  inverse_small = S.inverse_small p lo hi;
}

-- ---- the sum stays small while it is a number
product_small : (sum : Reply ℤ) (l z : ℤ) → SmallNumber (plus_product sum l z)
product_small (refused k) l z = tt
product_small (answered S) l z = go (beyond (l *ℤ z)) (beyond (S +ℤ l *ℤ z)) refl
  where
    go : (a b : Bool) → beyond (S +ℤ l *ℤ z) ≡ b → SmallNumber (cond a (refused 20) (cond b (refused 20) (answered (S +ℤ l *ℤ z))))
    go true b e = tt
    go false true e = tt
    go false false e = within_small (S +ℤ l *ℤ z) e

run_small : (r : ℕ → ℤ) (S : Reply ℤ) (es : List (Entry ℤ)) → SmallNumber S → SmallNumber (checked_run r S es)
run_small r S [] h = h
run_small r S (e ∷ es) h = run_small r (plus_product S e.value (r e.row)) es (product_small S e.value (r e.row))

pub sum_small : (rows : List ℕ) (values : List ℤ) (j : ℕ) (r : ℕ → ℤ) (s e : ℕ) → SmallNumber (whole_sum rows values j r s e)
unfolding whole_sum
sum_small rows values j r s e =
    run_small r (answered (pos 0)) (map (whole_stored rows values) (select (kept_below rows (whole_nonzero values) j) s e)) (omega arith)

module _ (rows : List ℕ) (values : List ℤ) (j : ℕ) (r : ℕ → ℤ) where
  pub entry_small : (p : ℕ) (sum : Reply ℤ) → SmallNumber sum → SmallNumber (with_entry rows values j r p sum)
  entry_small p sum s = go (kept_below rows (whole_nonzero values) j p)
    where
      go : (b : Bool) → SmallNumber (checked_run r sum (map (whole_stored rows values) (one b p)))
      go true = product_small sum (whole_value values p) (r (row rows p))
      go false = s

  -- the three ways of an entry
  module _ (p : ℕ) (sum : Reply ℤ) where
    pub entry_above : row rows p ≤ j → sum ≡ with_entry rows values j r p sum
    entry_above h =
        sym (ap (λ (b : Bool). checked_run r sum (map (whole_stored rows values) (one (b && whole_nonzero values p) p))) (le-ltb j (row rows p) h))

    pub entry_zero : j < row rows p → whole_nonzero values p ≡ false → sum ≡ with_entry rows values j r p sum
    entry_zero h z =
        sym
        (ap (λ (b : Bool). checked_run r sum (map (whole_stored rows values) (one (b && whole_nonzero values p) p))) (lt-ltb j (row rows p) h)
        ∙ ap (λ (b : Bool). checked_run r sum (map (whole_stored rows values) (one b p))) z)

    pub entry_kept : kept_below rows (whole_nonzero values) j p ≡ true → plus_product sum (whole_value values p) (r (row rows p)) ≡ with_entry rows values j r p sum
    entry_kept k = sym (ap (λ (b : Bool). checked_run r sum (map (whole_stored rows values) (one b p))) k)

  pub sum_none : (s : ℕ) → answered (pos 0) ≡ whole_sum rows values j r s s
  unfolding whole_sum
  sum_none s = sym (ap (λ (l : List ℕ). checked_dot r (map (whole_stored rows values) l)) (select_none (kept_below rows (whole_nonzero values) j) s))

  pub sum_next : (s p : ℕ) → s ≤ p → whole_sum rows values j r s (p + 1) ≡ with_entry rows values j r p (whole_sum rows values j r s p)
  unfolding whole_sum
  sum_next s p h =
      let test = kept_below rows (whole_nonzero values) j in
      ap (λ (l : List ℕ). checked_dot r (map (whole_stored rows values) l)) (select_next test s p h)
      ∙ ap (checked_dot r) (map-append (whole_stored rows values) (select test s p) (one (test p) p))
      ∙ checked-append r (answered (pos 0)) (map (whole_stored rows values) (select test s p)) _
