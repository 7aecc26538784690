-- The second pass, a sum at a time, and both passes.
-- Assumes nothing.
use Prim.Native.Nat.{ℕ, ◌+◌, ◌≤◌, ◌<◌}
use native.Mathlib.Omega.{arith}
use native.Mathlib.Decide.{dec_le, ℕ_discrete}
use mathlib.Core.Path.{◌≡◌, refl, sym, ap, subst, ◌∙◌}
use mathlib.Core.Bool.{Bool, false}
use mathlib.Core.List.{List}
use lib.ListN.{length, get_or, set, length-set}
use lib.Seq.{get_or-set_same, get_or-set_other}
use lib.Ieee.{Float, nan}
use borrow.Author.Tests.{lt-leb, leb-false}
use Rattle.lists.specs.Test.{any_in, any_in_all, any_in_below}
use Rattle.columns.specs.Columns.{row, outside_at}
use Rattle.columns.specs.Factor.{FirstFrom}
use Rattle.closure_route.specs.Part.{PartSet, zeros}
use Rattle.closure_route.specs.Column.{SumColumn, sum_column, terms_of, terms_from, sum_row}
use Rattle.closure_route.specs.Sums.{row_sum, entry_sum, SumContinued}
use Rattle.closure_route.proofs.SumLaws.{input_from}
use Rattle.closure_route.proofs.RestLaws.{none_zero}
use Rattle.closure_route.specs.Stored.{SumsInput, SumsStored}
use Rattle.closure_route.proofs.StoredLaws.{first_less, first_only, unread, later_row}
use Rattle.closure_route.specs.Lower.{ProductsAdded}
use Rattle.closure_route.specs.Upper.{AddRestInput, RestAdded, AddRestsInput, RestsAdded}

-- the rows of the stored entries before p are not greater than those of the sums from q on
abbrev pub RowsReached : SumColumn → ℕ → ℕ → Type 0
RowsReached x p q = (t i : ℕ) → x.s ≤ t → t < p → q ≤ i → i < x.last → row x.rows t ≤ sum_row x i

-- ---- one sum

module _ (x : SumColumn) {m : ℕ} (F : FirstFrom (sum_row x x.first + 1) x.rows x.s x.e m) where
  -- no row is greater
  pub rest_none : (z : List Float) → x.e ≤ m → RestAdded x m z z
  rest_none z h = record {
    first = F;
    long = refl;
    value = λ s l w. let k : m ≡ x.e = omega (arith, F.upto) in w ∙ ap (row_sum (terms_of x) z (sum_row x x.first) s) k;
    others = λ i d. refl;
  }

  pub rest_set : (z : List Float) (sum : Float) → x.first < length z
      → SumContinued (terms_from (terms_of x) m) z (sum_row x x.first) (get_or z x.first nan) sum → RestAdded x m z (set z x.first sum)
  rest_set z sum fits C = record {
    first = F;
    long = length-set z x.first sum;
    value = λ s l w. get_or-set_same z x.first sum nan fits ∙ C s l w;
    others = λ i d. get_or-set_other z x.first i sum nan d;
  }

-- ---- all sums

-- the sum at q, and the stored entries from p on
abbrev pub column_at_sum : SumColumn → ℕ → ℕ → SumColumn
column_at_sum x p q = sum_column x.n x.j q (q + 1) p x.e x.rows x.values x.result_rows x.scratch

module _ {x : SumColumn} {zeros : Bool} {size : ℕ} (R : AddRestsInput x zeros size) where
  pub rest_input : (p q : ℕ) → x.s ≤ p → p ≤ x.e → x.first ≤ q → q < x.last → AddRestInput (column_at_sum x p q) zeros size
  rest_input p q lo hi from below =
      let S = R.sums.storing in
      let b = R.sums.below q from below in
      let U = S.sums q (from, below, b) in
      record {
        small = S.small;
        inside = U.left;
        listed = omega (arith, S.listed);
        fits = omega (arith, S.fits);
        ordered = hi;
        stored = S.column.stored;
        rest = λ m F h.
            record {
              some = h;
              sum = input_from U m (omega (arith, F.from)) F.upto;
              below = omega arith;
              above = greater m F h;
              nonzeros = λ w t a c. none_zero x.values x.s x.e (sym R.zeros_are ∙ w) t (omega (arith, F.from)) c;
              rises = λ t t' a l c.
                  S.follows q t t' (from, below, b) (omega (arith, F.from, a.0), a.1, a.2) l (omega (arith, F.from, c.0), c.1, c.2)
                  (greater m F h t a.0 a.1);
            };
      }
    where
      greater : (m : ℕ) → FirstFrom (sum_row x q + 1) x.rows p x.e m → m < x.e
          → (t : ℕ) → m ≤ t → t < x.e → sum_row x q < row x.rows t
      greater m F h t a c =
          omega (arith, F.stops h, later_row x.rows x.s x.e R.sums.storing.column.ascends m t (omega (arith, F.from)) a c)

  pub rests_none : (z : List Float) → RestsAdded x x.first z z
  rests_none z = record { long = refl; added = λ i f lo hi. absurd (omega arith); after = λ i h. refl }

  -- one more
  module _ {z₀ z z' : List Float} {p q m : ℕ} (lo : x.first ≤ q) (hi : q < x.last) (from : x.s ≤ p) (P : RowsReached x p q) (D : RestsAdded x q z₀ z)
      (A : RestAdded (column_at_sum x p q) m z z') where
    -- m is the first of all the column's entries
    first_of_all : FirstFrom (sum_row x q + 1) x.rows x.s x.e m
    first_of_all = record {
      from = omega (arith, A.first.from);
      upto = A.first.upto;
      before = any_in_all (outside_at (sum_row x q + 1) x.rows) x.s m (λ t a b. lt-leb (sum_row x q + 1) (row x.rows t) (less t a b));
      stops = A.first.stops;
    }
      where
        less : (t : ℕ) → x.s ≤ t → t < m → row x.rows t < sum_row x q + 1
        less t a b = elim (dec_le p t) [ yes l ↦ first_less A.first t l b | no l ↦ omega (arith, P t q a (omega arith) (omega arith) hi) ]

    pub reached_more : RowsReached x m (q + 1)
    reached_more t i a b c d = omega (arith, first_less first_of_all t a b, R.sums.storing.ascends q i lo (omega arith) d)

    here : (f : ℕ) → FirstFrom (sum_row x q + 1) x.rows x.s x.e f
        → get_or z₀ q nan ≡ row_sum (terms_of x) z₀ (sum_row x q) x.s f → get_or z' q nan ≡ entry_sum (terms_of x) z₀ (sum_row x q)
    here f F w =
        let k : f ≡ m = first_only F first_of_all in
        let upto = first_of_all.upto in
        let after : (i : ℕ) → x.last ≤ i → get_or z i nan ≡ get_or z₀ i nan = λ i h. D.after i (omega arith) in
        A.value x.s first_of_all.from
        (D.after q (omega arith) ∙ w ∙ ap (row_sum (terms_of x) z₀ (sum_row x q) x.s) k
        ∙ sym (unread R.sums z₀ z m q first_of_all.from upto lo hi after))
        ∙ unread R.sums z₀ z x.e q (omega (arith, first_of_all.from)) (omega arith) lo hi after

    pub rests_more : RestsAdded x (q + 1) z₀ z'
    rests_more = record {
      long = A.long ∙ D.long;
      added = λ i f a b F w.
          elim (ℕ_discrete q i) [
            | yes k ↦
                subst (λ (i : ℕ). (f : ℕ) → FirstFrom (sum_row x i + 1) x.rows x.s x.e f
                → get_or z₀ i nan ≡ row_sum (terms_of x) z₀ (sum_row x i) x.s f → get_or z' i nan ≡ entry_sum (terms_of x) z₀ (sum_row x i)) k
                here f F w
            | no k ↦ A.others i (λ e. k (sym e)) ∙ D.added i f a (other i k b) F w
          ];
      after = λ i h. A.others i (omega arith) ∙ D.after i (omega arith);
    }
      where
        other : (i : ℕ) → (q ≡ i → ⊥) → i < q + 1 → i < q
        other i k b = elim (dec_le q i) [ yes l ↦ absurd (k (omega arith)) | no l ↦ omega arith ]

-- no stored row is greater than the first sum's row, and so none is greater than any of theirs
module _ {x : SumColumn} {size : ℕ} (R : SumsInput x size) where
  pub rests_idle : (z : List Float) → any_in (outside_at (sum_row x x.first + 1) x.rows) x.s x.e ≡ false → RestsAdded x x.last z z
  rests_idle z h = record {
    long = refl;
    added = λ i f lo hi F w. w ∙ ap (row_sum (terms_of x) z (sum_row x i) x.s) (all i f lo hi F);
    after = λ i l. refl;
  }
    where
      all : (i f : ℕ) → x.first ≤ i → i < x.last → FirstFrom (sum_row x i + 1) x.rows x.s x.e f → f ≡ x.e
      all i f lo hi F =
          elim (dec_le x.e f) [
            | yes l ↦ omega (arith, F.upto)
            | no l ↦
                (let k = sum_row x x.first in
                let least = leb-false (k + 1) (row x.rows f) (any_in_below (outside_at (k + 1) x.rows) x.s x.e f h F.from (omega arith)) in
                let up = later_row x.result_rows x.first x.last R.storing.ascends x.first i (omega arith) lo hi in
                absurd (omega (arith, F.stops (omega arith))))
          ]

-- both passes, once the entries are cleared
pub sums_stored : {x : SumColumn} {size : ℕ} → SumsInput x size → {z₀ z₁ z₂ z₃ : List Float} → PartSet x.first x.last zeros z₀ z₁
    → ProductsAdded x x.e z₁ z₂ → RestsAdded x x.last z₂ z₃ → SumsStored x z₀ z₃
sums_stored {x} R {z₀} {z₁} {z₂} {z₃} C L A = record {
  long = A.long ∙ L.long ∙ C.long;
  sums = λ q a.
      let lo = a.0 in
      let hi = a.1 in
      let w = L.sums q lo hi in
      let F = w.1 in
      A.added q w.0 lo hi F (w.2 ∙ sym (unread R z₁ z₂ w.0 q F.from F.upto lo hi L.after))
      ∙ unread R z₀ z₂ x.e q R.storing.column.ordered (omega arith) lo hi (λ i k. L.after i k ∙ C.after i k);
  after = λ q h. A.after q h ∙ L.after q h ∙ C.after q h;
}
