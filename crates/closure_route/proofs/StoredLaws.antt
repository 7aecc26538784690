-- Rows that ascend, and the sums from the first row below the diagonal on.
-- Assumes nothing.
use Prim.Native.Nat.{ℕ, ◌+◌, ◌-◌, ◌≤◌, ◌<◌}
use native.Mathlib.Omega.{arith}
use native.Mathlib.Decide.{dec_le}
use mathlib.Core.Path.{◌≡◌, refl, sym, ap, ◌∙◌}
use mathlib.Core.Bool.{false}
use mathlib.Core.List.{List}
use lib.ListN.{length, get_or, set, length-set}
use lib.Ieee.{Float, nan}
use lib.Seq.{get_or-set_same, get_or-set_other}
use lib.Dec.{ltb}
use borrow.Author.Tests.{leb-true, leb-false, le-leb, ltb-true, lt-ltb}
use Rattle.lists.specs.Test.{any_in, any_in_below, any_in_all, any_in-hit, any_in_found, same_truth}
use Rattle.columns.specs.Columns.{row, outside_at}
use Rattle.columns.specs.Factor.{Ascends, Column, FirstFrom}
use Rattle.closure_route.specs.Column.{SumColumn, sum_column, terms_of, sum_row, SumAt}
use Rattle.closure_route.specs.Sums.{inverse_at, row_sum, entry_sum}
use Rattle.closure_route.proofs.SumsLaws.{sum_between_cong}
use Rattle.closure_route.specs.Stored.{StoreSumsInput, SumsStored, SumsInput}

-- ---- rows that ascend

-- so no later row is less
pub later_row : (rows : List ℕ) (s e : ℕ) → Ascends rows s e → (q p : ℕ) → s ≤ q → q ≤ p → p < e → row rows q ≤ row rows p
later_row rows s e A q p lo h hi =
    elim (dec_le p q) [
      | yes l ↦ (let w : q ≡ p = omega arith in omega (arith, ap (row rows) w))
      | no l ↦ omega (arith, A q p lo (omega arith) hi)
    ]

-- ---- a first place

module _ {c : ℕ} {rows : List ℕ} {s e r : ℕ} (F : FirstFrom c rows s e r) where
  -- the rows before it
  pub first_less : (q : ℕ) → s ≤ q → q < r → row rows q < c
  first_less q lo hi = leb-false c (row rows q) (any_in_below (outside_at c rows) s r q F.before lo hi)

  -- there is one only
  pub first_only : {t : ℕ} → FirstFrom c rows s e t → r ≡ t
  first_only {t} G =
      elim (dec_le r t) [
        | yes h ↦
            elim (dec_le t r) [
              | yes l ↦ omega arith
              | no l ↦ absurd (omega (arith, F.stops (omega (arith, G.upto)), leb-false c (row rows r) (any_in_below (outside_at c rows) s t r G.before F.from (omega arith))))
            ]
        | no h ↦ absurd (omega (arith, G.stops (omega (arith, F.upto)), first_less t G.from (omega arith)))
      ]

-- ---- a greater row: rows ascend, so the last decides

module _ {rows : List ℕ} {s e : ℕ} (C : Column rows e s e) (i : ℕ) where
  pub greater_none : e ≤ s → false ≡ any_in (outside_at (i + 1) rows) s e
  greater_none h = sym (any_in_all (outside_at (i + 1) rows) s e (λ k lo hi. absurd (omega arith)))

  pub greater_last : {k : ℕ} → s < e → k ≡ row rows (e - 1) → ltb i k ≡ any_in (outside_at (i + 1) rows) s e
  greater_last {k} h w =
      same_truth (ltb i k) (any_in (outside_at (i + 1) rows) s e)
      (λ t. any_in-hit (outside_at (i + 1) rows) s e (e - 1) (omega arith) (omega arith) (le-leb (i + 1) (row rows (e - 1)) (omega (arith, ltb-true i k t))))
      (λ t.
      let f = any_in_found (outside_at (i + 1) rows) s e t in
      let up = later_row rows s e C.ascends f.0 (e - 1) f.1 (omega (arith, f.2)) (omega arith) in
      lt-ltb i k (omega (arith, leb-true (i + 1) (row rows f.0) f.3)))

-- ---- what is written is not read

pub unread : {x : SumColumn} {size : ℕ} → SumsInput x size → (z₀ z : List Float) (p q : ℕ) → x.s ≤ p → p ≤ x.e → x.first ≤ q → q < x.last
    → ((i : ℕ) → x.last ≤ i → get_or z i nan ≡ get_or z₀ i nan)
    → row_sum (terms_of x) z (sum_row x q) x.s p ≡ row_sum (terms_of x) z₀ (sum_row x q) x.s p
unread {x} R z₀ z p q lo hi a b after =
    let i = sum_row x q in
    sum_between_cong x.rows x.values x.j (inverse_at nan x.n x.scratch z i) (inverse_at nan x.n x.scratch z₀ i) x.s p lo
    (λ t c d k. after _ (R.storing.behind q t (a, b, R.below q a b) (c, omega arith, k)))

-- ---- from the first entry below the diagonal on

-- the sums from a place on
abbrev pub column_from : SumColumn → ℕ → SumColumn
column_from x from = sum_column x.n x.j from x.last x.s x.e x.rows x.values x.result_rows x.scratch

module _ (x : SumColumn) {from : ℕ} (F : FirstFrom (x.j + 1) x.result_rows x.first x.last from) where
  within : (q : ℕ) → SumAt (column_from x from) q → SumAt x q
  within q a = (omega (arith, F.from, a.0), a.1, a.2)

  pub from_sums : {size : ℕ} → StoreSumsInput x size → from < x.last → SumsInput (column_from x from) size
  from_sums R h = record {
    storing = record {
      small = R.small;
      inside = R.inside;
      ordered = F.upto;
      fits = R.fits;
      listed = R.listed;
      column = R.column;
      ascends = λ q q' lo. R.ascends q q' (omega (arith, F.from));
      sums = λ q a. R.sums q (within q a);
      behind = λ q p a. R.behind q p (within q a);
      rises = λ q q' p a. R.rises q q' p (within q a);
      follows = λ q p p' a. R.follows q p p' (within q a);
    };
    below = λ q lo hi. omega (arith, F.stops h, later_row x.result_rows x.first x.last R.ascends from q F.from lo hi);
  }

  pub from_stored : {z₀ z : List Float} → SumsStored (column_from x from) z₀ z → SumsStored x z₀ z
  from_stored D = record {
    long = D.long;
    sums = λ q a. elim (dec_le from q) [ yes p ↦ D.sums q (p, a.1, a.2) | no p ↦ absurd (omega (arith, a.2, first_less F q a.0 (omega arith))) ];
    after = D.after;
  }

  pub none_stored : (z : List Float) → x.last ≤ from → SumsStored x z z
  none_stored z l = record {
    long = refl;
    sums = λ q a. absurd (omega (arith, a.2, first_less F q a.0 (omega (arith, a.1))));
    after = λ q h. refl;
  }

-- ---- one sum alone

-- the sum written at its place
pub one_stored : (x : SumColumn) → x.first + 1 ≡ x.last → (z : List Float) → x.first < length z → (v : Float) → v ≡ entry_sum (terms_of x) z (sum_row x x.first)
    → SumsStored x z (set z x.first v)
one_stored x one z room v is = record {
  long = length-set z x.first v;
  sums = λ q a.
      let e : q ≡ x.first = omega (arith, a.0, a.1) in
      ap (λ (k : ℕ). get_or (set z x.first v) k nan) e ∙ get_or-set_same z x.first v nan room ∙ is ∙ ap (λ (k : ℕ). entry_sum (terms_of x) z (sum_row x k)) (sym e);
  after = λ q h. get_or-set_other z x.first q v nan (λ e. omega arith);
}
