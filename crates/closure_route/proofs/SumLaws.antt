-- Stored entries whose products can be taken, and what one product is.
-- Assumes nothing.
use Prim.Native.Nat.{ℕ, ◌≤◌, ◌<◌}
use native.Mathlib.Omega.{arith}
use mathlib.Core.Path.{◌≡◌, sym, ap, ap₂}
use mathlib.Core.Bool.{Bool, true, false, ◌&&◌}
use mathlib.Core.List.{List}
use lib.Ieee.{Float, binary64, ne, add, mul}
use borrow.Author.Tests.{lt-ltb, le-ltb}
use Rattle.lists.specs.Select.{one}
use Rattle.columns.specs.Columns.{row, value}
use Rattle.columns.specs.Kept.{f0, nonzero, kept_below}
use Rattle.takahashi.specs.Recurrence.{run}
use Rattle.exact.specs.Exact.{floats}
use Rattle.pair_places.specs.Position.{PairEntryInput}
use Rattle.closure_route.specs.Column.{SumTerms, terms_from}
use Rattle.closure_route.specs.Sums.{entries_at, with_product, AddProductInput, SumInput}

-- one of them
pub term_input : {t : SumTerms} {i size : ℕ} → SumInput t i size → (p : ℕ) → t.s ≤ p → p < t.e
    → AddProductInput t.n i t.j p t.rows t.values t.scratch size
term_input S p lo hi = record {
  small = S.small;
  left = S.left;
  stored = omega (arith, S.column.stored);
  weighed = omega (arith, S.column.weighed);
  inside = S.inside p lo hi;
  room = S.room;
  known = λ k. S.known p (lo, hi, k);
}

-- those from m on
pub input_from : {t : SumTerms} {i size : ℕ} → SumInput t i size → (m : ℕ) → t.s ≤ m → m ≤ t.e → SumInput (terms_from t m) i size
input_from S m lo hi = record {
  small = S.small;
  left = S.left;
  column = record {
    ordered = hi;
    stored = S.column.stored;
    weighed = S.column.weighed;
    ascends = λ q p a. S.column.ascends q p (omega arith);
  };
  inside = λ p a. S.inside p (omega arith);
  room = S.room;
  known = λ p a. S.known p (omega (arith, a.0), a.1, a.2);
}

-- the inverse's entry for it
pub product_read : {n i j p : ℕ} {rows : List ℕ} {values : List Float} {scratch : List ℕ} {size : ℕ}
    → AddProductInput n i j p rows values scratch size → kept_below rows (nonzero values) j p ≡ true → PairEntryInput n i (row rows p) scratch size
product_read A k = record { pair = record { small = A.small; left = A.left; right = A.inside; room = A.room }; known = A.known k }

-- ---- one product

module _ (rows : List ℕ) (values : List Float) (j p : ℕ) (r : ℕ → Float) (sum : Float) where
  -- an entry that is not kept below the diagonal
  pub passed_over : kept_below rows (nonzero values) j p ≡ false → sum ≡ with_product rows values j r p sum
  passed_over t = ap (λ (b : Bool). run floats r sum (entries_at rows values (one b p))) (sym t)

  pub with_product_above : row rows p ≤ j → sum ≡ with_product rows values j r p sum
  with_product_above h = passed_over (ap (λ (b : Bool). b && nonzero values p) (le-ltb j (row rows p) h))

  pub with_product_zero : j < row rows p → ne (value values p) f0 ≡ false → sum ≡ with_product rows values j r p sum
  with_product_zero h e = passed_over (ap₂ (λ (a b : Bool). a && b) (lt-ltb j (row rows p) h) e)

  -- and one that is
  pub kept_below_lem : j < row rows p → ne (value values p) f0 ≡ true → kept_below rows (nonzero values) j p ≡ true
  kept_below_lem h e = ap₂ (λ (a b : Bool). a && b) (lt-ltb j (row rows p) h) e

  pub with_product_kept : kept_below rows (nonzero values) j p ≡ true
      → add binary64 sum (mul binary64 (value values p) (r (row rows p))) ≡ with_product rows values j r p sum
  with_product_kept t = ap (λ (b : Bool). run floats r sum (entries_at rows values (one b p))) (sym t)
