-- One column of the recurrence in whole numbers, and the columns from the last to the first.
-- Assumes nothing.
use Prim.Native.Nat.{ℕ, ◌+◌, ◌≤◌, ◌<◌}
use native.Mathlib.Omega.{arith}
use native.Mathlib.Decide.{dec_lt}
use mathlib.Core.Path.{◌≡◌, refl, sym, ap, ap₂, subst, ◌∙◌}
use mathlib.Core.Bool.{Bool, true, false, ◌&&◌, true≢false}
use mathlib.Core.List.{List}
use lib.ListN.{length, get_or}
use lib.IntN.{ℤ, pos, nat_abs}
use Rattle.lists.specs.Test.{any_in, any_all, any-hit, any_in_all, not_so}
use Rattle.lists.specs.Select.{select, tally, tally_most}
use Rattle.lists.specs.Overwrite.{splice_at}
use Rattle.pairs.specs.ColumnOrder.{col_start, column_marking, set_size}
use Rattle.columns.specs.Columns.{start}
use Rattle.columns.specs.WholeFactor.{whole_desc}
use Rattle.exact.specs.Exceeds.{entry_exceeds, set_exceeds}
use Rattle.entries.specs.Entries.{column_count, position}
use Rattle.entries.proofs.Position.{select-tally, column_count_next, column_count_none, column_count_mono, position_found, position_in, position_below, entry_values-overwrite}
use Rattle.entries.specs.WholeTable.{whole_table}
use Rattle.layout.specs.ColumnRows.{column_test, ListColumnInput, ColumnListed}
use Rattle.whole_route.specs.ColumnSums.{MostFrom, SizesWithin}
use Rattle.whole_route.specs.Route.{WholesFrom, RowsInput, RowsDone, WholeColumnInput, WholeRouteInput, RouteDone}

module _ {n j first : ℕ} {listed₀ starts rows : List ℕ} {values : List ℤ} {scratch : List ℕ} {work : List ℤ}
    (I : WholeColumnInput n j first listed₀ starts rows values scratch work) where
  abbrev S : ℕ → ℕ → Bool
  S = column_marking n scratch

  -- there is room for its rows
  pub column_room : {place : ℕ} → place ≡ col_start n j → ListColumnInput n place j 0 listed₀ scratch
  column_room e = record {
    small = I.whole.small;
    inside = I.inside;
    start = e;
    room = I.whole.room;
    fits = omega (arith, tally_most (column_test n scratch j) j n, I.room);
  }

  -- the rows that are listed are its members'
  pub column_rows_lem : {listed : List ℕ} {count s e : ℕ} → ColumnListed n j n 0 listed₀ scratch listed count → length listed ≡ length listed₀
      → s ≡ start starts j → e ≡ start starts (j + 1) → RowsInput n j first count s e listed starts rows values scratch work
  column_rows_lem {listed} {count} L long a b = record {
    whole = I.whole;
    inside = I.inside;
    first_is = I.first_is;
    count_is = end;
    fits = I.fits;
    long = omega (arith, L.count_is, tally_most (column_test n scratch j) j n, I.room);
    start_is = a;
    end_is = b;
    rows_are = λ q h.
        let w = position_found n S j (first + q) I.inside (omega (arith, I.first_is)) (omega (arith, end)) in
        let t : tally (column_test n scratch j) j w.0 ≡ q = omega (arith, w.4, I.first_is) in
        let o : q ≡ 0 + q = omega arith in
        let r : get_or listed q 0 ≡ w.0 =
        ap₂ (λ (l : List ℕ) (k : ℕ). get_or l k 0) L.rows_is o
        ∙ splice_at 0 (select (column_test n scratch j) j n) listed₀ (omega (arith, tally_most (column_test n scratch j) j n, I.room)) 0 q (omega (arith, L.count_is))
        ∙ ap (λ (k : ℕ). get_or (select (column_test n scratch j) j n) k 0) (sym t)
        ∙ select-tally (column_test n scratch j) j w.0 n w.1 w.2 w.3 in
        subst (λ (x : ℕ). (j ≤ x) × (x < n) × (S x j ≡ true) × (position n S x j ≡ first + q)) (sym r) (w.1, w.2, w.3, w.4);
    later = λ r c o l t k. I.later r c o l t (omega (arith, end));
  }
    where
      end : first + count ≡ column_count n S (j + 1)
      end = omega (arith, column_count_next n S j, I.first_is, L.count_is)

-- the same test by another name
pub rows_same : {n j first : ℕ} {starts rows : List ℕ} {values : List ℤ} {scratch : List ℕ} {work₀ work : List ℤ} {b b' : Bool} → b ≡ b'
    → RowsDone n j first starts rows values scratch work₀ work b → RowsDone n j first starts rows values scratch work₀ work b'
rows_same {n} {j} {first} {starts} {rows} {values} {scratch} {work₀} {work} e D =
    subst (λ (y : Bool). RowsDone n j first starts rows values scratch work₀ work y) e D

-- a column without members has nothing to solve
pub column_empty : {n j first next : ℕ} {starts rows : List ℕ} {values : List ℤ} {scratch : List ℕ} {work : List ℤ}
    → first ≡ column_count n (column_marking n scratch) j → next ≡ column_count n (column_marking n scratch) (j + 1) → first ≡ next
    → WholesFrom n (column_marking n scratch) (whole_table n starts rows values) next work → RowsDone n j first starts rows values scratch work work false
column_empty {n} {j} {first} {next} {starts} {rows} {values} {scratch} f e same L = record {
  tells = sym (any_in_all _ j n (λ r h l. ap (λ (b : Bool). b && entry_exceeds (whole_desc starts rows values) (whole_table n starts rows values) r j) (none r h l)));
  long = refl;
  rest = λ p l. refl;
  solved = λ t r c o l m k. L r c o l m (omega (arith, same));
}
  where
    first_in : (r : ℕ) → j ≤ r → column_count n (column_marking n scratch) j ≤ position n (column_marking n scratch) r j
    first_in r h = omega arith

    none : (r : ℕ) → j ≤ r → r < n → column_marking n scratch r j ≡ false
    none r h l = not_so (column_marking n scratch r j) (λ t. omega (arith, position_in n (column_marking n scratch) r j h l t, first_in r h, f, e))

-- ---- the columns from the last to the first

-- a member of column c exceeds 2 ^ 53
abbrev pub column_exceeds : ℕ → List ℕ → List ℕ → List ℤ → List ℕ → ℕ → Bool
column_exceeds n starts rows values scratch c =
    any_in (λ i. column_marking n scratch i c && entry_exceeds (whole_desc starts rows values) (whole_table n starts rows values) i c) c n

-- the columns from j on
pub record ColumnsLeft (n j : ℕ) (starts rows : List ℕ) (values : List ℤ) (scratch : List ℕ) (work₀ work : List ℤ) : Type 0 where
  pub long : length work ≡ length work₀
  pub rest : (p : ℕ) → set_size n (column_marking n scratch) ≤ p → get_or work p (pos 0) ≡ get_or work₀ p (pos 0)
  pub solved : WholesFrom n (column_marking n scratch) (whole_table n starts rows values) (column_count n (column_marking n scratch) j) work
  pub none : (c : ℕ) → j ≤ c → c < n → column_exceeds n starts rows values scratch c ≡ false

module _ {n : ℕ} {starts rows : List ℕ} {values : List ℤ} {firsts scratch : List ℕ} {work₀ : List ℤ} (I : WholeRouteInput n starts rows values firsts scratch work₀) where
  abbrev S' : ℕ → ℕ → Bool
  S' = column_marking n scratch

  abbrev Z' : ℕ → ℕ → ℤ
  Z' = whole_table n starts rows values

  pub columns_none : ColumnsLeft n n starts rows values scratch work₀ work₀
  columns_none = record {
    long = refl;
    rest = λ p l. refl;
    solved = λ r c o l t k. absurd (omega (arith, position_below n S' r c n o l (omega arith) t));
    none = λ c h l. absurd (omega arith);
  }

  module _ {j : ℕ} {work : List ℤ} (L : ColumnsLeft n (j + 1) starts rows values scratch work₀ work) (h : j < n) where
    pub column_input : {listed : List ℕ} {first : ℕ} → n ≤ length listed → first ≡ get_or firsts j 0 → WholeColumnInput n j first listed starts rows values scratch work
    column_input room e = record {
      whole = I.whole;
      inside = h;
      first_is = e ∙ I.starts_are j h;
      fits = omega (arith, I.fits, L.long);
      room = room;
      later = L.solved;
    }

    -- the column's positions are the set's
    in_set : column_count n S' (j + 1) ≤ set_size n S'
    in_set = column_count_mono n S' (j + 1) n (omega arith)

    pub column_exceeds_lem : {first : ℕ} {work' : List ℤ} → RowsDone n j first starts rows values scratch work work' true
        → RouteDone n starts rows values scratch work₀ work' true
    unfolding set_exceeds
    column_exceeds_lem D = record {
      tells = sym (any-hit (column_exceeds n starts rows values scratch) n j h (sym D.tells));
      long = D.long ∙ L.long;
      rest = λ p l. D.rest p (omega (arith, in_set)) ∙ L.rest p l;
      entries = λ e. absurd (true≢false e);
    }

    -- the greatest size, with the column's
    pub most_more : {first next most most' : ℕ} {work' : List ℤ} → next ≡ column_count n S' (j + 1) → MostFrom next most (set_size n S') work
        → RowsDone n j first starts rows values scratch work work' false → SizesWithin first next most most' work' → MostFrom first most' (set_size n S') work'
    most_more {first} {next} {most} {most'} {work'} e M D W p lo hi = elim (dec_lt p next) [
      | yes l ↦ W.sizes p lo l
      | no l ↦
          subst (λ (y : ℤ). nat_abs y ≤ most') (sym (D.rest p (omega (arith, e)))) (omega (arith, M p (omega arith) hi, W.least))
    ]

    pub column_solved : {first : ℕ} {work' : List ℤ} → first ≡ get_or firsts j 0 → RowsDone n j first starts rows values scratch work work' false
        → ColumnsLeft n j starts rows values scratch work₀ work'
    column_solved e D = record {
      long = D.long ∙ L.long;
      rest = λ p l. D.rest p (omega (arith, in_set)) ∙ L.rest p l;
      solved = λ r c o l t k. D.solved refl r c o l t (omega (arith, e, I.starts_are j h));
      none = λ c o l. elim (dec_lt j c) [
        | yes m ↦ L.none c (omega arith) l
        | no m ↦ let q : j ≡ c = omega arith in subst (λ (x : ℕ). column_exceeds n starts rows values scratch x ≡ false) q (sym D.tells)
      ];
    }

  pub columns_done : {work : List ℤ} → ColumnsLeft n 0 starts rows values scratch work₀ work → RouteDone n starts rows values scratch work₀ work false
  unfolding set_exceeds
  columns_done {work} L = record {
    tells = sym (any_all (column_exceeds n starts rows values scratch) n (λ c l. L.none c (omega arith) l));
    long = L.long;
    rest = L.rest;
    entries = λ e.
        entry_values-overwrite n S' Z' (pos 0) work₀ work I.fits L.long L.rest
        (λ r c h l t. (L.solved r c h l t (omega (arith, column_count_none n S'))).0);
  }
