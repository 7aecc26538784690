-- Whether the sums of a column can be taken without a test, and that they then are the recurrence's.
-- Assumes nothing.
use Prim.Native.Nat.{ℕ, zero, suc, ◌+◌, ◌-◌, ◌*◌, ◌≤◌, ◌<◌, max}
use native.Mathlib.Omega.{arith}
use native.Mathlib.Nat.{mul-le-mul}
use native.Mathlib.Decide.{ℕ_discrete, dec_le}
use mathlib.Core.Path.{◌≡◌, refl, sym, ap, subst, subst₂, ◌∙◌}
use mathlib.Core.Bool.{Bool, true, false, false≢true}
use mathlib.Core.List.{List, map}
use lib.ListN.{length, get_or}
use lib.IntN.{ℤ, pos, nat_abs}
use Rattle.lists.specs.Select.{one}
use Rattle.integers.proofs.Integer.{nat_abs_*}
use Rattle.refusal.specs.Steps.{Reply, answered}
use Rattle.pairs.specs.ColumnOrder.{column_marking, set_size}
use Rattle.columns.specs.Columns.{row}
use Rattle.columns.specs.Kept.{kept_below}
use Rattle.columns.specs.Factor.{Column}
use Rattle.columns.specs.WholeFactor.{whole_value, whole_nonzero, whole_stored}
use Rattle.exact.specs.Checked.{plus_product, checked_run}
use Rattle.entries.specs.Entries.{position}
use Rattle.entries.proofs.Position.{column_count_mono, position_rises}
use Rattle.whole_route.specs.Sums.{whole_inverse_at, with_entry, whole_sum}
use Rattle.whole_route.specs.Route.{RowsInput}
use Rattle.whole_route.specs.ColumnSums.{ColumnSums, column_sums, factor_place, BelowAt, CountsAt, WholeSumsInput, SumsDone, SizesWithin, SumsFit, MostFrom, sum_of, Summed}
use Rattle.whole_route.proofs.SumLaws.{sum_none, sum_next}
use Rattle.whole_route.proofs.ColumnSumLaws.{whole_sum_plain, term_kept, term_size}
use Rattle.whole_route.proofs.PairLaws.{Kept, column, row_inside, read_place, read_behind}

-- ---- sizes
pub sizes_none : (s start : ℕ) (z : List ℤ) → SizesWithin s s start start z
sizes_none s start z = record { least = omega arith; sizes = λ p lo hi. absurd (omega arith) }

pub sizes_more : {s p start m k m' : ℕ} {z : List ℤ} → SizesWithin s p start m z → k ≡ nat_abs (get_or z p (pos 0)) → m' ≡ max m k → SizesWithin s (p + 1) start m' z
sizes_more {s} {p} {start} {m} {k} {m'} {z} W e f = record {
  least = omega (arith, W.least);
  sizes = λ t lo hi. elim (ℕ_discrete t p) [
    | yes same ↦ subst (λ (w : ℕ). nat_abs (get_or z w (pos 0)) ≤ m') (sym same) (omega (arith, e, f))
    | no other ↦ omega (arith, W.sizes t lo (omega arith), f)
  ];
}

-- ---- the sum reads the inverse at the kept rows alone
module _ (rows : List ℕ) (values : List ℤ) (j : ℕ) (r r' : ℕ → ℤ) (s e : ℕ)
    (same : (p : ℕ) → s ≤ p → p < e → kept_below rows (whole_nonzero values) j p ≡ true → r (row rows p) ≡ r' (row rows p)) where
  entry_same : (p : ℕ) → s ≤ p → p < e → (S : Reply ℤ) → with_entry rows values j r p S ≡ with_entry rows values j r' p S
  entry_same p lo hi S = go (kept_below rows (whole_nonzero values) j p) refl
    where
      go : (t : Bool) → kept_below rows (whole_nonzero values) j p ≡ t
          → checked_run r S (map (whole_stored rows values) (one t p)) ≡ checked_run r' S (map (whole_stored rows values) (one t p))
      go true k = ap (plus_product S (whole_value values p)) (same p lo hi k)
      go false k = refl

  pub whole_sum_same : s ≤ e → whole_sum rows values j r s e ≡ whole_sum rows values j r' s e
  whole_sum_same h =
      let w : s + (e - s) ≡ e = omega arith in
      subst (λ (x : ℕ). whole_sum rows values j r s x ≡ whole_sum rows values j r' s x) w (go (e - s) (omega arith))
    where
      go : (d : ℕ) → s + d ≤ e → whole_sum rows values j r s (s + d) ≡ whole_sum rows values j r' s (s + d)
      go zero l =
          let w : s ≡ s + 0 = omega arith in
          subst (λ (x : ℕ). whole_sum rows values j r s x ≡ whole_sum rows values j r' s x) w (sym (sum_none rows values j r s) ∙ sum_none rows values j r' s)
      go (suc d) l =
          let w : s + d + 1 ≡ s + suc d = omega arith in
          subst (λ (x : ℕ). whole_sum rows values j r s x ≡ whole_sum rows values j r' s x) w
          (sum_next rows values j r s (s + d) (omega arith) ∙ entry_same (s + d) (omega arith) (omega arith) (whole_sum rows values j r s (s + d))
          ∙ ap (with_entry rows values j r' (s + d)) (go d (omega arith)) ∙ sym (sum_next rows values j r' s (s + d) (omega arith)))

-- ---- a column
module _ {n j first count s e : ℕ} {listed starts rows : List ℕ} {values : List ℤ} {scratch : List ℕ} {work : List ℤ}
    (I : RowsInput n j first count s e listed starts rows values scratch work) where
  abbrev S : ℕ → ℕ → Bool
  S = column_marking n scratch

  abbrev x : ColumnSums
  x = column_sums n j first count s e listed rows values scratch

  pub stored : Column rows (length values) s e
  stored = subst₂ (λ (a b : ℕ). Column rows (length values) a b) (sym I.start_is) (sym I.end_is) (column I.whole j I.inside)

  -- where the entries stand that a sum below the diagonal reads
  reads : (q p : ℕ) → BelowAt x q → CountsAt x p → (first + count ≤ factor_place x q p) × (factor_place x q p < set_size n S)
  reads q p B C =
      let R = I.rows_are q B.0 in
      let k : Kept I.whole j p = (omega (arith, I.start_is, C.0), omega (arith, I.end_is, C.1), C.2) in (
        omega (arith, I.count_is, read_behind I.whole (row listed q) j R.0 R.1 R.2 B.1 p k),
        read_place I.whole (row listed q) j R.0 R.1 R.2 p k,
      )

  -- lists that are the same behind the column give the same sums
  pub sum_same : (z z' : List ℤ) → ((p : ℕ) → first + count ≤ p → get_or z' p (pos 0) ≡ get_or z p (pos 0)) → (q : ℕ) → BelowAt x q → sum_of x z q ≡ sum_of x z' q
  sum_same z z' A q B =
      whole_sum_same rows values j (whole_inverse_at n scratch z (row listed q)) (whole_inverse_at n scratch z' (row listed q)) s e
      (λ p lo hi k. sym (A (factor_place x q p) (reads q p B (lo, hi, k)).0)) stored.ordered

  -- none is stored
  pub unsummed : Summed x false work work
  unsummed = record { long = refl; sums = λ t. absurd (false≢true t); later = λ p h. refl }

  module _ {most : ℕ} (M : MostFrom (first + count) most (set_size n S) work) (F : SumsFit s e most values) where
    pub sums_input : WholeSumsInput x (F.greatest * most) work
    sums_input = record {
      small = I.whole.small;
      column = stored;
      inside = λ p lo hi. row_inside I.whole j I.inside p (omega (arith, I.start_is)) (omega (arith, I.end_is));
      room = I.whole.room;
      long = I.long;
      fits = omega (arith, I.count_is, column_count_mono n S (j + 1) n (omega (arith, I.inside)), I.fits);
      rows_inside = λ q h. ((I.rows_are q h).0, (I.rows_are q h).1);
      ascends = ascend;
      behind = λ q p B C. (reads q p B C).0;
      known = λ q p B C. omega (arith, (reads q p B C).1, I.fits);
      within = λ q p B C.
          subst (λ (k : ℕ). k ≤ F.greatest * most)
          (sym (ap nat_abs (term_kept x work q p C.2) ∙ nat_abs_* (whole_value values p) (get_or work (factor_place x q p) (pos 0))))
          (mul-le-mul (F.sizes p C.0 C.1) (M (factor_place x q p) (reads q p B C).0 (reads q p B C).1));
      few = F.few;
    }
      where
        ascend : (q p : ℕ) → 0 ≤ q → q < p → p < count → row listed q < row listed p
        ascend q p lo l hi =
            let Q = I.rows_are q (omega arith) in
            let P = I.rows_are p hi in
            elim (dec_le (row listed p) (row listed q)) [
              | yes h ↦ elim (ℕ_discrete (row listed p) (row listed q)) [
                | yes same ↦ absurd (omega (arith, ap (λ (i : ℕ). position n S i j) same, Q.3, P.3))
                | no other ↦ absurd (omega (arith, position_rises n S (row listed p) (row listed q) j P.0 (omega arith) P.2, Q.3, P.3))
              ]
              | no h ↦ omega arith
            ]

    pub summed : {z : List ℤ} → SumsDone x work z → Summed x true work z
    summed D = record {
      long = D.long;
      sums = λ t q B.
          ap (λ (y : ℤ). answered y) (D.sums q B)
          ∙ sym
          (whole_sum_plain rows values j (whole_inverse_at n scratch work (row listed q)) s e (F.greatest * most) F.few (λ p lo hi. term_size sums_input q p B lo hi)
          stored.ordered);
      later = D.later;
    }
