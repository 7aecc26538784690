-- The entries of a column, whatever the last steps of the recurrence are: below the diagonal `off d S`, on it `on d S'`, with d the column's divisor.
-- Assumes nothing.
use Prim.Native.Nat.{ℕ, ◌+◌, ◌≤◌, ◌<◌, min, max}
use native.Mathlib.Omega.{arith}
use native.Mathlib.Nat.{eq-or-lt_of_le}
use native.Mathlib.Decide.{dec_le}
use mathlib.Core.Path.{◌≡◌, refl, sym, ap, ap₂, subst, subst₂, ◌∙◌}
use mathlib.Core.Bool.{Bool, true, false}
use mathlib.Core.Logic.{⊎_elim}
use mathlib.Core.List.{List}
use lib.Dec.{eqb}
use lib.ListN.{length, get_or, length-set}
use lib.Seq.{get_or-set_same, get_or-set_other}
use lib.Ieee.{Float, nan}
use Rattle.refusal.specs.Bounds.{max_dimension}
use Rattle.columns.specs.Columns.{start, row}
use Rattle.columns.specs.Kept.{desc}
use Rattle.takahashi.specs.Recurrence.{Lower, Solves, at}
use Rattle.exact.specs.Exact.{floats}
use Rattle.entries.proofs.Position.{column_count_mono, position_first, position_in, position_below, position_rises}
use Rattle.closure_route.specs.Column.{sum_terms, sum_column}
use Rattle.closure_route.specs.Sums.{inverse_at, sum_between, entry_sum}
use Rattle.closure_route.proofs.SumsLaws.{sum_between_cong}
use Rattle.closure_route.specs.Stored.{StoreSumsInput, SumsStored}
use Rattle.closure_route.specs.Finish.{SumsFinished, put_if, StoreDiagonalInput}
use Rattle.closure_route.specs.Route.{RouteLists, route_set, ClosureRouteInput, SolvedFrom, ColumnsSolved}
use Rattle.closure_route.proofs.ColumnLaws.{place_in, first_of, route_terms, route_column, column, row_below, row_inside, dependency, word_is}
use Rattle.closure_route.proofs.ColumnLaws.{column_most, column_input, diagonal_row, diagonal_input}

put_if-length : (b : Bool) (z : List Float) (q : ℕ) (x : Float) → length (put_if b z q x) ≡ length z
put_if-length true z q x = length-set z q x
put_if-length false z q x = refl

-- the sum of column j over the entries r of the inverse
abbrev sum_over : RouteLists → ℕ → (ℕ → Float) → Float
sum_over g j r = sum_between g.rows g.values j r (start g.starts j) (start g.starts (j + 1))

module _ {g : RouteLists} {size : ℕ} (G : ClosureRouteInput g size) (off on : Float → Float → Float) (diag : ℕ → Float) {Z : ℕ → ℕ → Float}
    (solves : Solves floats off on diag (desc g.starts g.rows g.values) (Lower g.n) Z) {j : ℕ} {z₀ z₁ z₂ z₃ : List Float} (jn : j < g.n)
    (size_is : length z₀ ≡ size) (D : SolvedFrom g.n (route_set g) Z (j + 1) z₀) (A : SumsStored (route_column g j) z₀ z₁)
    (B : SumsFinished j (off (diag j)) g.result_rows (first_of g j) (first_of g (j + 1)) z₁ z₂)
    (C : z₃ ≡ put_if (route_set g j j) z₂ (first_of g j) (on (diag j) (entry_sum (route_terms g j) z₂ j))) where
  -- below the diagonal
  sum_below : (r : ℕ) → j < r → r < g.n → route_set g r j ≡ true → entry_sum (route_terms g j) z₀ r ≡ sum_over g j (at Z r)
  sum_below r h l t =
      sum_between_cong g.rows g.values j (inverse_at nan g.n g.scratch z₀ r) (at Z r) (start g.starts j) (start g.starts (j + 1))
      (column G j jn).ordered
      (λ p lo hi c.
      let x = row g.rows p in
      let b = row_inside G j p jn (lo, hi, c) in
      let u = row_below G j p (lo, hi, c) in
      ap (λ (q : ℕ). get_or z₀ q nan) (word_is G r j p (omega arith) l t (lo, hi, c))
      ∙ D (max r x) (min r x) (omega arith) (omega arith) (omega arith) (dependency G r j p (omega arith) l t (lo, hi, c)))

  under : (r : ℕ) → j < r → r < g.n → route_set g r j ≡ true → get_or z₂ (place_in g r j) nan ≡ Z r j
  unfolding sum_between
  under r h l t =
      let q = place_in g r j in
      let e : row g.result_rows (place_in g r j) ≡ r = G.rows_are r j (omega arith) l t in
      let b : j < row g.result_rows (place_in g r j) = omega arith in
      let hi = position_in g.n (route_set g) r j (omega arith) l t in
      B.below q (omega arith) hi b
      ∙ ap (off (diag j)) (A.sums q (omega arith, hi, b) ∙ ap (entry_sum (route_terms g j) z₀) e ∙ sum_below r h l t)
      ∙ sym (solves.below_is r j (omega arith, l) h)

  -- on it
  sum_on : route_set g j j ≡ true → entry_sum (route_terms g j) z₂ j ≡ sum_over g j (λ k. Z k j)
  sum_on t =
      sum_between_cong g.rows g.values j (inverse_at nan g.n g.scratch z₂ j) (λ k. Z k j) (start g.starts j) (start g.starts (j + 1))
      (column G j jn).ordered
      (λ p lo hi c.
      let x = row g.rows p in
      let b = row_inside G j p jn (lo, hi, c) in
      let u = row_below G j p (lo, hi, c) in
      let e : max j (row g.rows p) ≡ row g.rows p = omega arith in
      let f : min j (row g.rows p) ≡ j = omega arith in
      ap (λ (q : ℕ). get_or z₂ q nan) (word_is G j j p (omega arith) jn t (lo, hi, c) ∙ ap₂ (place_in g) e f)
      ∙ under x u b (subst₂ (λ (a c : ℕ). route_set g a c ≡ true) e f (dependency G j j p (omega arith) jn t (lo, hi, c))))

  on_diagonal : route_set g j j ≡ true → get_or z₃ (place_in g j j) nan ≡ Z j j
  unfolding sum_between
  on_diagonal t =
      let q = first_of g j in
      let x = on (diag j) (entry_sum (route_terms g j) z₂ j) in
      let inside = position_below g.n (route_set g) j j g.n (omega arith) jn jn t in
      ap₂ (λ (z : List Float) (p : ℕ). get_or z p nan) (C ∙ ap (λ (b : Bool). put_if b z₂ q x) t) (position_first g.n (route_set g) j)
      ∙ get_or-set_same z₂ q x nan (omega (arith, position_first g.n (route_set g) j, A.long, B.long, G.values_fit))
      ∙ ap (on (diag j)) (sum_on t) ∙ sym (solves.diagonal_is j (omega arith, jn))

  -- other places are not written last
  untouched : (q : ℕ) → (route_set g j j ≡ true → first_of g j < q) → get_or z₃ q nan ≡ get_or z₂ q nan
  untouched q h = ap (λ (z : List Float). get_or z q nan) C ∙ go (route_set g j j) refl
    where
      x : Float
      x = on (diag j) (entry_sum (route_terms g j) z₂ j)

      go : (b : Bool) → route_set g j j ≡ b → get_or (put_if b z₂ (first_of g j) x) q nan ≡ get_or z₂ q nan
      go true t = let l = h t in get_or-set_other z₂ (first_of g j) q x nan (omega arith)
      go false t = refl

  after : (q : ℕ) → first_of g (j + 1) ≤ q → get_or z₃ q nan ≡ get_or z₀ q nan
  after q l =
      untouched q (λ t. omega (arith, position_first g.n (route_set g) j, position_in g.n (route_set g) j j (omega arith) jn t))
      ∙ B.after q l ∙ A.after q l

  -- the column is done
  column_solved : ColumnsSolved g.n (route_set g) Z j z₀ z₃
  column_solved = record {
    long = ap length C ∙ put_if-length (route_set g j j) z₂ _ _ ∙ B.long ∙ A.long;
    rest = λ q l. after q (omega (arith, column_most G j jn));
    entries = λ r c h p l t. ⊎_elim (λ e. here r c e p l t) (λ e. later r c e p l t) (eq-or-lt_of_le h);
  }
    where
      later : (r c : ℕ) → j < c → c ≤ r → r < g.n → route_set g r c ≡ true → get_or z₃ (place_in g r c) nan ≡ Z r c
      later r c h p l t =
          let m = column_count_mono g.n (route_set g) (j + 1) c (omega arith) in
          after (place_in g r c) (omega arith) ∙ D r c (omega arith) p l t

      own : (r : ℕ) → j ≤ r → r < g.n → route_set g r j ≡ true → get_or z₃ (place_in g r j) nan ≡ Z r j
      own r h l t =
          ⊎_elim
          (λ e. subst (λ (x : ℕ). get_or z₃ (place_in g x j) nan ≡ Z x j) e (on_diagonal (subst (λ (x : ℕ). route_set g x j ≡ true) (sym e) t)))
          (λ b.
          untouched (place_in g r j) (λ u. omega (arith, position_first g.n (route_set g) j, position_rises g.n (route_set g) j r j (omega arith) b u))
          ∙ under r b l t)
          (eq-or-lt_of_le h)

      here : (r c : ℕ) → j ≡ c → c ≤ r → r < g.n → route_set g r c ≡ true → get_or z₃ (place_in g r c) nan ≡ Z r c
      here r c e p l t =
          subst (λ (x : ℕ). get_or z₃ (place_in g r x) nan ≡ Z r x) e (own r (omega arith) l (subst (λ (x : ℕ). route_set g r x ≡ true) (sym e) t))

-- ---- the same, for the numbers that the code reads

-- where column j starts and ends in the result and in the factor
pub record Ends (g : RouteLists) (j first last s e : ℕ) : Type 0 where
  pub first_is : first ≡ first_of g j
  pub last_is : last ≡ first_of g (j + 1)
  pub start_is : s ≡ start g.starts j
  pub end_is : e ≡ start g.starts (j + 1)

module _ {g : RouteLists} {size : ℕ} (G : ClosureRouteInput g size) {j : ℕ} (jn : j < g.n) where
  -- as they are read from the starts
  pub ends_read : {first last s e : ℕ} → first ≡ get_or g.result_starts j 0 → last ≡ get_or g.result_starts (j + 1) 0 → s ≡ start g.starts j
      → e ≡ start g.starts (j + 1) → Ends g j first last s e
  ends_read a b c d = record {
    first_is = a ∙ G.starts_are j (omega arith);
    last_is = b ∙ G.starts_are (j + 1) (omega arith);
    start_is = c;
    end_is = d;
  }

  module _ {first last s e : ℕ} (E : Ends g j first last s e) where
    pub sums_at : StoreSumsInput (sum_column g.n j first last s e g.rows g.values g.result_rows g.scratch) size
    sums_at = rw (E.first_is, E.last_is, E.start_is, E.end_is) (column_input G j jn)

    -- the column's part is within the lists
    pub part_at : (k : ℕ) → k ≡ size → (first ≤ last) × (last ≤ k) × (last ≤ length g.result_rows) × (j < max_dimension)
    part_at k q =
        let most = column_most G j jn in
        let up = column_count_mono g.n (route_set g) j (j + 1) (omega arith) in
        omega (arith, E.first_is, E.last_is, G.values_fit, G.rows_fit, G.small)

    -- a column that is not empty
    some_at : (first ≡ last → ⊥) → first_of g j < first_of g (j + 1)
    some_at d =
        let up = column_count_mono g.n (route_set g) j (j + 1) (omega arith) in
        elim (dec_le (first_of g (j + 1)) (first_of g j)) [ yes h ↦ absurd (d (omega (arith, E.first_is, E.last_is))) | no h ↦ omega arith ]

    pub diagonal_at : (first ≡ last → ⊥) → (k : ℕ) → k ≡ size
        → StoreDiagonalInput (sum_terms g.n j s e g.rows g.values g.scratch) first g.result_rows k
    diagonal_at d k q = rw (q, E.first_is, E.start_is, E.end_is) (diagonal_input G j jn (some_at d))

    -- a column without entries
    pub solved_empty : (Z : ℕ → ℕ → Float) (z : List Float) → first ≡ last → SolvedFrom g.n (route_set g) Z (j + 1) z
        → ColumnsSolved g.n (route_set g) Z j z z
    solved_empty Z z q D = record {
      long = refl;
      rest = λ p l. refl;
      entries = λ r c h p l t.
          ⊎_elim
          (λ w.
          let v : route_set g r j ≡ true = subst (λ (x : ℕ). route_set g r x ≡ true) (sym w) t in
          absurd (omega (arith, position_in g.n (route_set g) r j (omega arith) l v, E.first_is, E.last_is)))
          (λ w. D r c (omega arith) p l t)
          (eq-or-lt_of_le h);
    }

    -- a column with entries, of a table that solves the recurrence with these last steps and divisors
    pub solved_at : (off on : Float → Float → Float) (diag : ℕ → Float) {Z : ℕ → ℕ → Float}
        → Solves floats off on diag (desc g.starts g.rows g.values) (Lower g.n) Z
        → {d : Float} {z₀ z₁ z₂ z₃ : List Float} → (first ≡ last → ⊥) → d ≡ diag j → length z₀ ≡ size → SolvedFrom g.n (route_set g) Z (j + 1) z₀
        → SumsStored (sum_column g.n j first last s e g.rows g.values g.result_rows g.scratch) z₀ z₁
        → SumsFinished j (off d) g.result_rows first last z₁ z₂
        → z₃ ≡ put_if (eqb (row g.result_rows first) j) z₂ first (on d (entry_sum (sum_terms g.n j s e g.rows g.values g.scratch) z₂ j))
        → ColumnsSolved g.n (route_set g) Z j z₀ z₃
    solved_at off on diag solves {d} {z₀} {z₁} {z₂} {z₃} some q k D A B C =
        column_solved G off on diag solves jn k D
        (rw (E.first_is, E.last_is, E.start_is, E.end_is) at A)
        (rw (q, E.first_is, E.last_is) at B)
        (rw (q, E.first_is, E.start_is, E.end_is, diagonal_row G j jn (some_at some)) at C)
