-- One column of the recurrence over a closed set: what its steps ask of the later columns.
-- Assumes nothing.
use Prim.Native.Nat.{ℕ, ◌+◌, ◌≤◌, ◌<◌, min, max}
use native.Mathlib.Omega.{arith}
use native.Mathlib.Decide.{dec_le}
use mathlib.Core.Path.{◌≡◌, sym, ap, ap₂, subst, subst₂, ◌∙◌}
use mathlib.Core.Bool.{true}
use lib.Dec.{eqb, ltb}
use lib.ListN.{length, length-map}
use borrow.Author.Tests.{ltb-true, eqb-true, eq-eqb}
use Rattle.lists.specs.Test.{and_left, same_truth}
use Rattle.lists.specs.Select.{select_holds}
use Rattle.pairs.specs.ColumnOrder.{set_size}
use Rattle.closed_set.specs.ClosedSet.{descends}
use Rattle.closed_set.proofs.ClosedSet.{descends_at}
use Rattle.columns.specs.Columns.{start, row}
use Rattle.columns.specs.Kept.{nonzero, kept_below, pattern}
use Rattle.columns.specs.Factor.{Column}
use Rattle.columns.proofs.Factor.{factor_column}
use Rattle.columns.proofs.Pattern.{pattern_at}
use Rattle.entries.specs.Entries.{column_count, position}
use Rattle.entries.proofs.Position.{column_count_mono, position_first, position_below, position_rises, position_found}
use Rattle.closure_route.specs.Column.{SumTerms, SumColumn, sum_terms, sum_column, TermAt, term_position}
use Rattle.closure_route.specs.Sums.{SumInput}
use Rattle.closure_route.specs.Stored.{StoreSumsInput}
use Rattle.closure_route.specs.Finish.{StoreDiagonalInput}
use Rattle.closure_route.specs.Route.{RouteLists, route_set, ClosureRouteInput}

-- where (r, c) stands in the result
abbrev pub place_in : RouteLists → ℕ → ℕ → ℕ
place_in g r c = position g.n (route_set g) r c

-- where column j starts
abbrev pub first_of : RouteLists → ℕ → ℕ
first_of g j = column_count g.n (route_set g) j

-- what the sums of column j are taken over, and the column
abbrev pub route_terms : RouteLists → ℕ → SumTerms
route_terms g j = sum_terms g.n j (start g.starts j) (start g.starts (j + 1)) g.rows g.values g.scratch

abbrev pub route_column : RouteLists → ℕ → SumColumn
route_column g j =
    sum_column g.n j (first_of g j) (first_of g (j + 1)) (start g.starts j) (start g.starts (j + 1)) g.rows g.values g.result_rows g.scratch

-- q is the place of the entry (r, j) of the set
abbrev EntryAt : RouteLists → ℕ → ℕ → Type 0
EntryAt g j q = (r : ℕ) × (j ≤ r) × (r < g.n) × (route_set g r j ≡ true) × (place_in g r j ≡ q) × (row g.result_rows q ≡ r)

module _ {g : RouteLists} {size : ℕ} (G : ClosureRouteInput g size) where
  pub column : (j : ℕ) → j < g.n → Column g.rows (length g.values) (start g.starts j) (start g.starts (j + 1))
  column j jn = factor_column G.factor j jn

  pub row_below : (j p : ℕ) → TermAt (route_terms g j) p → j < row g.rows p
  row_below j p k = ltb-true j (row g.rows p) (and_left (ltb j (row g.rows p)) (nonzero g.values p) k.2)

  row_within : (j p : ℕ) → j < g.n → start g.starts j ≤ p → p < start g.starts (j + 1) → row g.rows p < g.n
  row_within j p jn lo hi = G.factor.rows_ascend.inside p (omega (arith, (column j jn).stored))

  pub row_inside : (j p : ℕ) → j < g.n → TermAt (route_terms g j) p → row g.rows p < g.n
  row_inside j p jn k = row_within j p jn k.0 k.1

  -- the pair of a member's row and a descendant of its column is a member
  pub dependency : (r j p : ℕ) → j ≤ r → r < g.n → route_set g r j ≡ true → TermAt (route_terms g j) p
      → route_set g (max r (row g.rows p)) (min r (row g.rows p)) ≡ true
  dependency r j p h l t k =
      let jn : j < g.n = omega arith in
      let nz = nonzero g.values in
      let pat = pattern g.starts g.rows nz in
      let f = select_holds (kept_below g.rows nz j) (start g.starts j) (start g.starts (j + 1)) p k.0 k.1 k.2 in
      let b : f.0 < length (pattern g.starts g.rows nz j) = rw length-map f.1 in
      let d : descends (pattern g.starts g.rows nz) j (row g.rows p) ≡ true =
      subst (λ (x : ℕ). descends pat j x ≡ true) (pattern_at nz G.factor.starts_rise j jn f.0 b ∙ ap (row g.rows) f.2)
      (descends_at pat j f.0 b) in
      G.closed r j (row g.rows p) h l d t

  -- its position stands behind the marks
  pub word_is : (r j p : ℕ) → j ≤ r → r < g.n → route_set g r j ≡ true → TermAt (route_terms g j) p
      → term_position (route_terms g j) r p ≡ place_in g (max r (row g.rows p)) (min r (row g.rows p))
  word_is r j p h l t k =
      let b = row_inside j p (omega arith) k in
      G.positions (max r (row g.rows p)) (min r (row g.rows p)) (omega arith) (omega arith) (dependency r j p h l t k)

  -- what a sum asks
  column_sum : (r j : ℕ) → j ≤ r → r < g.n → route_set g r j ≡ true → SumInput (route_terms g j) r size
  column_sum r j h l t =
      let jn : j < g.n = omega arith in
      record {
        small = G.small;
        left = l;
        column = column j jn;
        inside = λ p lo hi. row_within j p jn lo hi;
        room = G.room;
        known = λ p k.
            let x = row g.rows p in
            let b = row_inside j p jn k in
            let w = word_is r j p h l t k in
            let q = position_below g.n (route_set g) (max r x) (min r x) g.n (omega arith) (omega arith) (omega arith) (dependency r j p h l t k) in
            omega (arith, G.values_fit);
      }

  -- a column's end is within the set
  pub column_most : (j : ℕ) → j < g.n → first_of g (j + 1) ≤ set_size g.n (route_set g)
  column_most j jn = column_count_mono g.n (route_set g) (j + 1) g.n (omega arith)

  entry_at : (j q : ℕ) → j < g.n → first_of g j ≤ q → q < first_of g (j + 1) → EntryAt g j q
  entry_at j q jn lo hi =
      let w = position_found g.n (route_set g) j q jn lo hi in
      (w.0, w.1, w.2, w.3, w.4, ap (row g.result_rows) (sym w.4) ∙ G.rows_are w.0 j w.1 w.2 w.3)

  -- what the column's sums ask
  pub column_input : (j : ℕ) → j < g.n → StoreSumsInput (route_column g j) size
  column_input j jn =
      let most = column_most j jn in
      record {
        small = G.small;
        inside = jn;
        ordered = column_count_mono g.n (route_set g) j (j + 1) (omega arith);
        fits = omega (arith, G.values_fit);
        listed = omega (arith, G.rows_fit);
        column = column j jn;
        ascends = λ q q' lo l hi.
            let w = entry_at j q jn lo (omega arith) in
            let v = entry_at j q' jn (omega arith) hi in
            omega (arith, w.5, v.5, rows_rise w v l);
        sums = λ q a. let w = entry_at j q jn a.0 a.1 in rw w.5 (column_sum w.0 j w.1 w.2 w.3);
        behind = λ q p a k. let w = entry_at j q jn a.0 a.1 in rw w.5 (later w.0 p (omega (arith, w.5, a.2)) w.2 w.3 k);
        rises = λ q q' p a l hi k up.
            let w = entry_at j q jn a.0 a.1 in
            let v = entry_at j q' jn (omega (arith, a.0)) hi in
            rw (w.5, v.5) (down w.0 v.0 p (omega (arith, w.5, a.2)) (rows_rise w v l) v.2 w.3 v.3 k (omega (arith, w.5)));
        follows = λ q p p' a k l k' less.
            let w = entry_at j q jn a.0 a.1 in
            rw w.5 (along w.0 p p' (omega (arith, w.5, a.2)) w.2 w.3 k l k' (omega (arith, w.5)));
      }
    where
      -- the rows of the column's entries rise
      rows_rise : {q q' : ℕ} (w : EntryAt g j q) (v : EntryAt g j q') → q < q' → w.0 < v.0
      rows_rise {q} {q'} w v l =
          elim (dec_le v.0 w.0) [
            | yes h ↦
                elim (dec_le w.0 v.0) [
                  | yes m ↦ (let x : w.0 ≡ v.0 = omega arith in absurd (omega (arith, w.4, v.4, ap (λ (r : ℕ). place_in g r j) x)))
                  | no m ↦ absurd (omega (arith, w.4, v.4, position_rises g.n (route_set g) v.0 w.0 j v.1 (omega arith) v.3))
                ]
            | no h ↦ omega arith
          ]

      later : (r p : ℕ) → j < r → r < g.n → route_set g r j ≡ true → TermAt (route_terms g j) p → first_of g (j + 1) ≤ term_position (route_terms g j) r p
      later r p h l t k =
          let b = row_inside j p jn k in
          let u = row_below j p k in
          let w = word_is r j p (omega arith) l t k in
          let m = column_count_mono g.n (route_set g) (j + 1) (min r (row g.rows p)) (omega arith) in
          omega arith

      -- down the column of a descendant
      down : (r r' p : ℕ) → j < r → r < r' → r' < g.n → route_set g r j ≡ true → route_set g r' j ≡ true → TermAt (route_terms g j) p → row g.rows p ≤ r
          → term_position (route_terms g j) r p < term_position (route_terms g j) r' p
      down r r' p h less l t t' k up =
          let x = row g.rows p in
          let m = dependency r j p (omega arith) (omega arith) t k in
          let e₁ : max r x ≡ r = omega arith in
          let e₂ : min r x ≡ x = omega arith in
          let e₃ : max r' x ≡ r' = omega arith in
          let e₄ : min r' x ≡ x = omega arith in
          omega (
            arith,
            word_is r j p (omega arith) (omega arith) t k ∙ ap₂ (place_in g) e₁ e₂,
            word_is r' j p (omega arith) l t' k ∙ ap₂ (place_in g) e₃ e₄,
            position_rises g.n (route_set g) r r' x up less (subst₂ (λ (a c : ℕ). route_set g a c ≡ true) e₁ e₂ m),
          )

      -- along the column of the row
      along : (r p p' : ℕ) → j < r → r < g.n → route_set g r j ≡ true → TermAt (route_terms g j) p → p < p' → TermAt (route_terms g j) p' → r < row g.rows p
          → term_position (route_terms g j) r p < term_position (route_terms g j) r p'
      along r p p' h l t k less k' up =
          let x = row g.rows p in
          let x' = row g.rows p' in
          let more = (column j jn).ascends p p' k.0 less k'.1 in
          let m = dependency r j p (omega arith) l t k in
          let e₁ : max r x ≡ x = omega arith in
          let e₂ : min r x ≡ r = omega arith in
          let e₃ : max r x' ≡ x' = omega arith in
          let e₄ : min r x' ≡ r = omega arith in
          omega (
            arith,
            word_is r j p (omega arith) l t k ∙ ap₂ (place_in g) e₁ e₂,
            word_is r j p' (omega arith) l t k' ∙ ap₂ (place_in g) e₃ e₄,
            position_rises g.n (route_set g) x x' r (omega arith) more (subst₂ (λ (a c : ℕ). route_set g a c ≡ true) e₁ e₂ m),
          )

  -- a column that has entries has its diagonal's exactly if its first row is the column
  pub diagonal_row : (j : ℕ) → j < g.n → first_of g j < first_of g (j + 1) → eqb (row g.result_rows (first_of g j)) j ≡ route_set g j j
  diagonal_row j jn some =
      same_truth (eqb (row g.result_rows (first_of g j)) j) (route_set g j j)
      (λ t. subst (λ (r : ℕ). route_set g r j ≡ true) (sym w.5 ∙ eqb-true (row g.result_rows (first_of g j)) j t) w.3)
      (λ t. eq-eqb (row g.result_rows (first_of g j)) j (w.5 ∙ least t))
    where
      w : EntryAt g j (first_of g j)
      w = entry_at j (first_of g j) jn (omega arith) some

      least : route_set g j j ≡ true → w.0 ≡ j
      least t = elim (dec_le w.0 j) [
        | yes h ↦ omega (arith, w.1)
        | no h ↦ absurd (omega (arith, w.4, position_first g.n (route_set g) j, position_rises g.n (route_set g) j w.0 j (omega arith) (omega arith) t))
      ]

  -- what the diagonal's entry asks
  pub diagonal_input : (j : ℕ) → j < g.n → first_of g j < first_of g (j + 1) → StoreDiagonalInput (route_terms g j) (first_of g j) g.result_rows size
  diagonal_input j jn some =
      let most = column_most j jn in
      record {
        listed = omega (arith, G.rows_fit);
        fits = omega (arith, G.values_fit);
        sum = λ e. column_sum j j (omega arith) jn (sym (diagonal_row j jn some) ∙ eq-eqb (row g.result_rows (first_of g j)) j e);
      }
