-- The first pass, a stored entry at a time.
-- Assumes nothing.
use Prim.Native.Nat.{ℕ, ◌+◌, ◌≤◌, ◌<◌}
use native.Mathlib.Omega.{arith}
use native.Mathlib.Decide.{dec_le}
use mathlib.Core.Path.{◌≡◌, refl, sym, ap, subst, ◌∙◌}
use mathlib.Core.Bool.{true, false}
use mathlib.Core.List.{List}
use lib.ListN.{get_or}
use lib.Ieee.{Float, nan, ne}
use borrow.Author.Tests.{lt-leb}
use Rattle.lists.specs.Test.{any_in, any_in_none, any_in_more}
use Rattle.columns.specs.Columns.{row, value, outside_at}
use Rattle.columns.specs.Kept.{f0}
use Rattle.columns.specs.Factor.{FirstFrom}
use Rattle.closure_route.specs.Part.{PartSet}
use Rattle.closure_route.specs.Products.{column_terms, AddColumnInput}
use Rattle.closure_route.specs.Column.{SumColumn, sum_column, terms_of, kept_term, sum_row}
use Rattle.closure_route.specs.Sums.{inverse_at, row_sum, with_product, SumInput}
use Rattle.closure_route.proofs.SumsLaws.{sum_between_none, sum_between_next, product_same}
use Rattle.closure_route.proofs.SumLaws.{with_product_above, with_product_zero, with_product_kept, term_input, product_read}
use Rattle.closure_route.specs.Stored.{SumsInput}
use Rattle.closure_route.proofs.StoredLaws.{first_less, later_row}
use Rattle.closure_route.specs.Lower.{AddStoredInput, ProductAdded, ProductsAdded}

-- the rows of the sums before q are less than those of the stored entries from p on
abbrev pub RowsBefore : SumColumn → ℕ → ℕ → Type 0
RowsBefore x q p = (i t : ℕ) → x.first ≤ i → i < q → p ≤ t → t < x.e → sum_row x i < row x.rows t

-- ---- one stored entry

module _ {x : SumColumn} {size : ℕ} (R : AddStoredInput x size) where
  abbrev k : ℕ
  k = row x.rows x.s

  -- the row i of the inverse
  abbrev inverse_row : List Float → ℕ → ℕ → Float
  inverse_row z i = inverse_at nan x.n x.scratch z (sum_row x i)

  -- it is not below the diagonal
  pub product_above : (z : List Float) → k ≤ x.j → ProductAdded x x.first z z
  product_above z h = record {
    from = omega arith;
    upto = R.ordered;
    passed = λ i lo hi. absurd (omega arith);
    reached = λ i lo hi. omega (arith, R.below i lo hi);
    long = refl;
    added = λ i lo hi. with_product_above x.rows x.values x.j x.s (inverse_row z i) (get_or z i nan) h;
    before = λ i h. refl;
    after = λ i h. refl;
  }

  module _ {m : ℕ} (F : FirstFrom k x.result_rows x.first x.last m) where
    reached : (i : ℕ) → m ≤ i → i < x.last → k ≤ sum_row x i
    reached i lo hi =
        omega (arith, F.stops (omega arith), later_row x.result_rows x.first x.last R.ascends m i F.from lo hi)

    -- it adds nothing
    none_added : (z : List Float)
        → ((i : ℕ) → m ≤ i → i < x.last → get_or z i nan ≡ with_product x.rows x.values x.j (inverse_row z i) x.s (get_or z i nan))
        → ProductAdded x m z z
    none_added z same = record {
      from = F.from;
      upto = F.upto;
      passed = first_less F;
      reached = reached;
      long = refl;
      added = same;
      before = λ i h. refl;
      after = λ i h. refl;
    }

    -- as it is 0
    pub product_zero : (z : List Float) → x.j < k → ne (value x.values x.s) f0 ≡ false → ProductAdded x m z z
    product_zero z h t =
        none_added z (λ i lo hi. with_product_zero x.rows x.values x.j x.s (inverse_row z i) (get_or z i nan) h t)

    -- as no sum is left
    pub product_none : (z : List Float) → x.last ≤ m → ProductAdded x m z z
    product_none z h = none_added z (λ i lo hi. absurd (omega arith))

    -- its product is added
    pub product_added : {z z' : List Float} → kept_term (terms_of x) x.s ≡ true
        → PartSet m x.last (column_terms x.n k (value x.values x.s) x.result_rows x.scratch z) z z' → ProductAdded x m z z'
    product_added {z} h A = record {
      from = F.from;
      upto = F.upto;
      passed = first_less F;
      reached = reached;
      long = A.long;
      added = λ i lo hi. A.holds i lo hi ∙ with_product_kept x.rows x.values x.j x.s (inverse_row z i) (get_or z i nan) h;
      before = A.before;
      after = A.after;
    }

    pub product_input : m < x.last → kept_term (terms_of x) x.s ≡ true → AddColumnInput x.n k m x.last x.result_rows x.scratch size
    product_input h c = R.column m F.from h (F.stops h) c

-- ---- all stored entries

-- the stored entry at p, and the sums from q on
abbrev pub column_at_entry : SumColumn → ℕ → ℕ → SumColumn
column_at_entry x p q = sum_column x.n x.j q x.last p (p + 1) x.rows x.values x.result_rows x.scratch

module _ {x : SumColumn} {size : ℕ} (R : SumsInput x size) where
  pub stored_input : (p q : ℕ) → x.s ≤ p → p < x.e → x.first ≤ q → q ≤ x.last → AddStoredInput (column_at_entry x p q) size
  stored_input p q lo hi from upto = record {
    stored = omega (arith, R.storing.column.stored);
    weighed = omega (arith, R.storing.column.weighed);
    ordered = upto;
    listed = R.storing.listed;
    below = λ i a b. R.below i (omega arith) b;
    ascends = λ i i' a. R.storing.ascends i i' (omega arith);
    column = λ m a b h c. record {
      small = R.storing.small;
      right = (entry m (omega arith) b).inside p lo hi;
      some = b;
      fits = R.storing.fits;
      listed = R.storing.listed;
      below = λ i d e. up m (omega arith) h i d e;
      reads = λ i d e. product_read (term_input (entry i (omega arith) e) p lo hi) c;
      behind = λ i d e. R.storing.behind i p (omega arith, e, R.below i (omega arith) e) (lo, hi, c);
      rises = λ i i' d l e.
          R.storing.rises i i' p (omega arith, omega arith, R.below i (omega arith) (omega arith)) l e (lo, hi, c) (up m (omega arith) h i d (omega arith));
    };
  }
    where
      entry : (i : ℕ) → x.first ≤ i → i < x.last → SumInput (terms_of x) (sum_row x i) size
      entry i c d = R.storing.sums i (c, d, R.below i c d)

      up : (m : ℕ) → x.first ≤ m → row x.rows p ≤ sum_row x m → (i : ℕ) → m ≤ i → i < x.last → row x.rows p ≤ sum_row x i
      up m a h i c d =
          omega (arith, h, later_row x.result_rows x.first x.last R.storing.ascends m i a c d)

  -- before the first
  pub products_none : (z : List Float) → ((q : ℕ) → x.first ≤ q → q < x.last → get_or z q nan ≡ f0) → ProductsAdded x x.s z z
  products_none z C = record {
    long = refl;
    sums = λ q lo hi. (
      x.s,
      record {
        from = omega arith;
        upto = omega arith;
        before = any_in_none (outside_at (sum_row x q + 1) x.rows) x.s;
        stops = λ l. absurd (omega arith);
      },
      C q lo hi ∙ sum_between_none x.rows x.values x.j (inverse_at nan x.n x.scratch z (sum_row x q)) x.s,
    );
    after = λ q h. refl;
  }

  -- one more
  module _ {z₀ z z' : List Float} {p q m : ℕ} (lo : x.s ≤ p) (hi : p < x.e) (P : RowsBefore x q p) (D : ProductsAdded x p z₀ z)
      (A : ProductAdded (column_at_entry x p q) m z z') where
    pub before_more : RowsBefore x m (p + 1)
    before_more i t a b c d =
        elim (dec_le q i) [
          | yes l ↦ omega (arith, A.passed i l b, R.storing.column.ascends p t lo (omega arith) d)
          | no l ↦ P i t a (omega arith) (omega arith) d
        ]

    -- a sum whose row is less
    kept_sum : (i : ℕ) → x.first ≤ i → i < x.last → i < m
        → (f : ℕ) × FirstFrom (sum_row x i + 1) x.rows x.s (p + 1) f
        × (get_or z' i nan ≡ row_sum (terms_of x) z₀ (sum_row x i) x.s f)
    kept_sum i a b h =
        let w = D.sums i a b in
        let f = w.0 in
        let F = w.1 in
        let less : sum_row x i < row x.rows p = elim (dec_le q i) [ yes l ↦ A.passed i l h | no l ↦ P i p a (omega arith) (omega arith) hi ] in (
          f,
          record {
            from = F.from;
            upto = omega (arith, F.upto);
            before = F.before;
            stops = λ l.
                elim (dec_le p f) [
                  | yes y ↦ (let v : p ≡ f = omega (arith, F.upto) in subst (λ (k : ℕ). sum_row x i + 1 ≤ row x.rows k) v (omega arith))
                  | no y ↦ F.stops (omega arith)
                ];
          },
          A.before i h ∙ w.2,
        )

    -- and one whose row is not
    next_sum : (i : ℕ) → x.first ≤ i → i < x.last → m ≤ i
        → (f : ℕ) × FirstFrom (sum_row x i + 1) x.rows x.s (p + 1) f
        × (get_or z' i nan ≡ row_sum (terms_of x) z₀ (sum_row x i) x.s f)
    next_sum i a b h =
        let w = D.sums i a b in
        let f = w.0 in
        let F = w.1 in
        let up = A.reached i h b in
        let all : f ≡ p =
        elim (dec_le p f) [
          | yes y ↦ omega (arith, F.upto)
          | no y ↦ absurd (omega (arith, F.stops (omega arith), R.storing.column.ascends f p F.from (omega arith) hi))
        ] in
        let k = sum_row x i in
        let outside = outside_at (k + 1) x.rows in
        let r = inverse_at nan x.n x.scratch z k in
        let r₀ = inverse_at nan x.n x.scratch z₀ k in (
          p + 1,
          record {
            from = omega arith;
            upto = omega arith;
            before =
                any_in_more outside x.s p lo (subst (λ (e : ℕ). any_in outside x.s e ≡ false) all F.before)
                (lt-leb (k + 1) (row x.rows p) (omega arith));
            stops = λ l. absurd (omega arith);
          },
          A.added i h b ∙ ap (with_product x.rows x.values x.j r p) (w.2 ∙ ap (row_sum (terms_of x) z₀ k x.s) all)
              ∙ product_same x.rows x.values x.j r r₀ p (row_sum (terms_of x) z₀ k x.s p)
              (λ c. D.after _ (R.storing.behind i p (a, b, R.below i a b) (lo, hi, c)))
              ∙ sym (sum_between_next x.rows x.values x.j r₀ x.s p lo),
        )

    pub products_more : ProductsAdded x (p + 1) z₀ z'
    products_more = record {
      long = A.long ∙ D.long;
      sums = λ i a b. elim (dec_le m i) [ yes h ↦ next_sum i a b h | no h ↦ kept_sum i a b (omega arith) ];
      after = λ i h. A.after i h ∙ D.after i h;
    }
