-- Laws of specs/Factor.antt.
use Prim.Native.Nat.{ℕ, zero, suc, ◌+◌, ◌-◌, ◌≤◌, ◌<◌}
use Rattle.std.proofs.Common.{arith, le_antisymm, lt_of_not-le, le_of_suc-le-suc, sym, ap, subst}
use Rattle.std.specs.Prelude.{◌≡◌, List, [], ◌∷◌, length}
use Rattle.std.proofs.Math.Bool.{not}
use borrow.Author.Tests.{ltb-false, leb-false, eqb-true, le-ltb, lt-leb, eq-eqb, not-false}
use Rattle.lists.specs.Test.{any_below, any_all, any_in_below, any_in_all}
use Rattle.refusal.specs.Steps.{Passed}
use Rattle.refusal.proofs.Steps.{passed_clear, clear_passed, passed_append, passed_front, passed_back}
use Rattle.columns.specs.Columns.{start, row, falls, outside_at, not_above, unsorted}
use Rattle.columns.specs.Columns.{bound_steps, broken_steps, starts_steps, rows_steps, column_steps}
use Rattle.columns.specs.Factor.{FactorBounded, Unbroken, Starts, Sorted, Factor, Column}

-- ---- the steps pass exactly if the records hold
pub bound_steps-sound : (n entries : ℕ) → Passed (bound_steps n entries) → FactorBounded n entries
unfolding bound_steps
bound_steps-sound n entries e =
    let d = passed_clear (bound_steps n entries) e in
    record { small = ltb-false _ _ d.0; few = ltb-false _ _ d.1.0 }

pub bound_steps_passed : (n entries : ℕ) → FactorBounded n entries → Passed (bound_steps n entries)
unfolding bound_steps
bound_steps_passed n entries B = clear_passed (bound_steps n entries) (le-ltb _ _ B.small, (le-ltb _ _ B.few, tt))

pub broken_steps-sound : (number n : ℕ) (starts : List ℕ) (indices values : ℕ)
    → Passed (broken_steps number n starts indices values) → Unbroken n starts indices values
unfolding broken_steps
broken_steps-sound number n starts indices values e =
    let d = passed_clear (broken_steps number n starts indices values) e in
    record {
      zero = eqb-true _ _ (not-false _ d.0);
      rising = λ c l. ltb-false _ _ (any_below (falls starts) n c d.1.0 l);
      last = eqb-true _ _ (not-false _ d.1.1.0);
      valued = sym (eqb-true _ _ (not-false _ d.1.1.1.0));
    }

pub broken_steps_passed : (number n : ℕ) (starts : List ℕ) (indices values : ℕ)
    → Unbroken n starts indices values → Passed (broken_steps number n starts indices values)
unfolding broken_steps
broken_steps_passed number n starts indices values U =
    clear_passed (broken_steps number n starts indices values) (
      ap not (eq-eqb _ _ U.zero),
      (
        any_all (falls starts) n (λ c l. le-ltb _ _ (U.rising c l)),
        (ap not (eq-eqb _ _ U.last), (ap not (eq-eqb _ _ (sym U.valued)), tt)),
      ),
    )

module _ (n : ℕ) (starts rows : List ℕ) (values : ℕ) where
  first_back : Passed (starts_steps n starts rows values) → (length starts ≡ n + 1) × Unbroken n starts (length rows) values
  unfolding starts_steps
  first_back e = (
    eqb-true _ _ (not-false _ (passed_clear (starts_steps n starts rows values) e).0),
    broken_steps-sound 2 n starts (length rows) values (passed_back (_ ∷ []) (broken_steps 2 n starts (length rows) values) e),
  )

  pub starts_steps-sound : Passed (starts_steps n starts rows values) → Starts n starts rows
  starts_steps-sound e =
      let d = first_back e in
      record { columns = d.0; zero = d.1.zero; rising = d.1.rising; last = d.1.last }

  pub starts_steps_valued : Passed (starts_steps n starts rows values) → values ≡ length rows
  starts_steps_valued e = (first_back e).1.valued

  pub starts_steps_passed : Starts n starts rows → values ≡ length rows → Passed (starts_steps n starts rows values)
  unfolding starts_steps
  starts_steps_passed S v =
      passed_append (_ ∷ []) (broken_steps 2 n starts (length rows) values)
      (clear_passed (_ ∷ []) (ap not (eq-eqb _ _ S.columns), tt))
      (broken_steps_passed 2 n starts (length rows) values (record { zero = S.zero; rising = S.rising; last = S.last; valued = v }))

pub rows_steps-sound : (n : ℕ) (starts rows : List ℕ) → Passed (rows_steps n starts rows) → Sorted n starts rows
unfolding rows_steps
rows_steps-sound n starts rows e =
    let d = passed_clear (rows_steps n starts rows) e in
    record {
      inside = λ p l. leb-false _ _ (any_below _ (length rows) p d.0 l);
      above = λ c p h lo hi. leb-false _ _ (any_in_below (not_above rows) _ _ p (any_below (unsorted starts rows) n c d.1.0 h) (omega arith) hi);
    }

pub rows_steps_passed : (n : ℕ) (starts rows : List ℕ) → Sorted n starts rows → Passed (rows_steps n starts rows)
unfolding rows_steps
rows_steps_passed n starts rows R =
    clear_passed (rows_steps n starts rows) (
      any_all (outside_at n rows) (length rows) (λ p l. lt-leb _ _ (R.inside p l)),
      (any_all (unsorted starts rows) n (λ c h. any_in_all (not_above rows) _ _ (λ p lo hi. lt-leb _ _ (R.above c p h (omega arith) hi))), tt),
    )

module _ (n : ℕ) (starts rows : List ℕ) (values : ℕ) where
  pub column_steps-sound : Passed (column_steps n starts rows values) → Factor n starts rows values
  unfolding column_steps
  column_steps-sound e =
      let s = passed_front (starts_steps n starts rows values) (rows_steps n starts rows) e in
      record {
        starts_rise = starts_steps-sound n starts rows values s;
        rows_ascend = rows_steps-sound n starts rows (passed_back (starts_steps n starts rows values) (rows_steps n starts rows) e);
        valued = starts_steps_valued n starts rows values s;
      }

  pub column_steps_passed : Factor n starts rows values → Passed (column_steps n starts rows values)
  unfolding column_steps
  column_steps_passed F =
      passed_append (starts_steps n starts rows values) (rows_steps n starts rows)
      (starts_steps_passed n starts rows values F.starts_rise F.valued)
      (rows_steps_passed n starts rows F.rows_ascend)

-- ---- starts
module _ {n : ℕ} {starts rows : List ℕ} (S : Starts n starts rows) where
  back : (m c : ℕ) → c + m ≡ n → start starts c ≤ length rows
  back zero c e =
      let q : c ≡ n = omega arith in
      omega (arith, S.last, ap (start starts) q)
  back (suc m) c e = omega (arith, S.rising c (omega arith), back m (c + 1) (omega arith))

  -- each column ends within the rows
  pub starts_end : (c : ℕ) → c ≤ n → start starts c ≤ length rows
  starts_end c h = back (n - c) c (omega arith)

-- ---- rows
-- two numbers, neither below the other
pub neither_below : (q p : ℕ) → (q < p → ⊥) → (p < q → ⊥) → q ≡ p
neither_below q p a b = le_antisymm (le_of_suc-le-suc (lt_of_not-le b)) (le_of_suc-le-suc (lt_of_not-le a))

module _ (rows : List ℕ) (s e : ℕ) (above : (p : ℕ) → s < p → p < e → row rows (p - 1) < row rows p) where
  up : (q m : ℕ) → s ≤ q → q + suc m < e → row rows q < row rows (q + suc m)
  up q zero lo hi =
      let w : (q + 1) - 1 ≡ q = omega arith in
      let r : row rows ((q + 1) - 1) < row rows (q + 1) = above (q + 1) (omega arith) (omega arith) in
      omega (arith, ap (row rows) w)
  up q (suc m) lo hi =
      let w : (q + suc (suc m)) - 1 ≡ q + suc m = omega arith in
      let r : row rows ((q + suc (suc m)) - 1) < row rows (q + suc (suc m)) = above (q + suc (suc m)) (omega arith) (omega arith) in
      omega (arith, ap (row rows) w, up q m lo (omega arith))

  -- rows of which each is above the one before it ascend
  pub above_ascends : (q p : ℕ) → s ≤ q → q < p → p < e → row rows q < row rows p
  above_ascends q p lo l hi =
      let w : q + suc (p - suc q) ≡ p = omega arith in
      let u = up q (p - suc q) lo (omega arith) in
      subst (λ (k : ℕ). row rows q < row rows k) w u

module _ {n : ℕ} {starts rows : List ℕ} (R : Sorted n starts rows) where
  -- rows ascend along a column
  pub rows_rise : (c q p : ℕ) → c < n → start starts c ≤ q → q < p → p < start starts (c + 1) → row rows q < row rows p
  rows_rise c q p h lo l hi = above_ascends rows (start starts c) (start starts (c + 1)) (λ k. R.above c k h) q p lo l hi

  -- equal rows of a column are at one place
  pub rows_once : (c q p : ℕ) → c < n → start starts c ≤ q → q < start starts (c + 1)
      → start starts c ≤ p → p < start starts (c + 1) → row rows q ≡ row rows p → q ≡ p
  rows_once c q p h lq hq lp hp e =
      neither_below q p
      (λ l. let r = rows_rise c q p h lq l hp in omega arith)
      (λ l. let r = rows_rise c p q h lp l hq in omega arith)

-- a column of a factor
pub factor_column : {n : ℕ} {starts rows : List ℕ} {values : ℕ} → Factor n starts rows values
    → (c : ℕ) → c < n → Column rows values (start starts c) (start starts (c + 1))
factor_column F c h =
    let e = starts_end F.starts_rise (c + 1) (omega arith) in
    record {
      ordered = F.starts_rise.rising c h;
      stored = e;
      weighed = omega (arith, F.valued);
      ascends = λ q p lo l hi. rows_rise F.rows_ascend c q p h lo l hi;
    }
