-- The columns of a closed pattern, laid out one after the other, as the columns that a scatter walks over.
-- Assumes nothing.
use Prim.Native.Nat.{ℕ, zero, suc, ◌+◌, ◌-◌, ◌≤◌, ◌<◌}
use native.Mathlib.Omega.{arith}
use native.Mathlib.Nat.{le_refl, le_of_lt, lt_trans, lt_of_lt_of_le, add-zero}
use mathlib.Core.Path.{◌≡◌, sym, ap, subst, subst₂, ◌∙◌}
use mathlib.Core.List.{List}
use lib.ListN.{length, get_or}
use Rattle.refusal.specs.Bounds.{max_dimension}
use Rattle.takahashi.specs.Recurrence.{Entry}
use Rattle.scatter.specs.Scatter.{row_at, RowsMarked, ClosedPattern, Laid}
use Rattle.scatter.specs.ClosedPattern.{cell}
use Rattle.scatter.proofs.ClosedPattern.{degree_small, cell_is, cell_fits, cell_up, starts_le, next_le}
use Rattle.factor_route.specs.Walk.{DescendantsMarked, StandsAt, ColumnWalk, Walk, start_of, end_of}

module _ {T : Type 0} (none : T) (n : ℕ) (desc : ℕ → List (Entry T)) (P : ClosedPattern none n desc) (starts rows : List ℕ) (L : Laid none n desc starts rows) where
  -- a place of column c, counted from its start
  place_is : (c x : ℕ) → c < n → get_or starts c 0 ≤ x → x < get_or starts (c + 1) 0 → get_or rows x 0 ≡ cell none desc c (x - get_or starts c 0)
  place_is c x cn lo hi =
      let q : x ≡ get_or starts c 0 + (x - get_or starts c 0) = omega arith in
      ap (λ (i : ℕ). get_or rows i 0) q ∙ cell_is none n desc starts rows L c (x - get_or starts c 0) cn (omega (arith, L.next c cn))

  laid_ascends : (c : ℕ) → c < n → (x y : ℕ) → get_or starts c 0 ≤ x → x < y → y < get_or starts (c + 1) 0 → get_or rows x 0 < get_or rows y 0
  laid_ascends c cn x y lo l hi =
      subst₂ (λ (i k : ℕ). i < k) (sym (place_is c x cn lo (lt_trans l hi))) (sym (place_is c y cn (omega arith) hi))
      (cell_up none n desc P c (x - get_or starts c 0) (y - get_or starts c 0) cn (omega arith) (omega (arith, L.next c cn)))

  laid_inside : (c : ℕ) → c < n → (x : ℕ) → get_or starts c 0 ≤ x → x < get_or starts (c + 1) 0 → get_or rows x 0 < n
  laid_inside c cn x lo hi =
      subst (λ (k : ℕ). k < n) (sym (place_is c x cn lo hi)) (cell_fits none n desc P c (x - get_or starts c 0) cn (omega (arith, L.next c cn)))

  -- the place of a descendant
  stands : (c q i : ℕ) → c < n → q < length (desc c) → row_at none (desc c) q ≡ i
      → StandsAt rows (get_or starts c 0 + 1) (get_or starts (c + 1) 0) i (get_or starts c 0 + 1 + q)
  stands c q i cn h e = (omega arith, omega (arith, L.next c cn), L.below c q cn h ∙ e)

  module _ (j : ℕ) (jn : j < n) where
    abbrev b : ℕ
    b = get_or starts j 0 + 1

    abbrev m : ℕ
    m = length (desc j)

    row : (p : ℕ) → p < m → get_or rows (b + p) 0 ≡ row_at none (desc j) p
    row p h = L.below j p jn h

    inside : (p : ℕ) → p < m → get_or rows (b + p) 0 < n
    inside p h = subst (λ (k : ℕ). k < n) (sym (row p h)) (P.fits j p jn h)

    rising : (p u : ℕ) → p < u → u < m → get_or rows (b + p) 0 < get_or rows (b + u) 0
    rising p u l h = subst₂ (λ (i k : ℕ). i < k) (sym (row p (lt_trans l h))) (sym (row u h)) (P.up j p u jn l h)

    -- the descendants after position p are its column's
    later : (p u : ℕ) → p < u → u < m
        → (q : ℕ) × (q < length (desc (get_or rows (b + p) 0))) × (row_at none (desc (get_or rows (b + p) 0)) q ≡ get_or rows (b + u) 0)
    later p u l h =
        subst (λ (k : ℕ). (q : ℕ) × (q < length (desc k)) × (row_at none (desc k) q ≡ get_or rows (b + u) 0)) (sym (row p (lt_trans l h)))
        (subst (λ (i : ℕ). (q : ℕ) × (q < length (desc (row_at none (desc j) p))) × (row_at none (desc (row_at none (desc j) p)) q ≡ i)) (sym (row u h))
        (P.closed j p u jn l h))

    column : (p : ℕ) → p < m → ColumnWalk rows (start_of starts rows b p) (end_of starts rows b p) b m p
    column p h =
        let k : ℕ = get_or rows (b + p) 0 in
        let kn : k < n = inside p h in
        let next : get_or starts (k + 1) 0 ≡ get_or starts k 0 + suc (length (desc k)) = L.next k kn in record {
          here = h;
          few = degree_small none n desc P j jn;
          inside = omega (arith, L.next j jn, next_le none n desc starts rows L j jn, L.room);
          rising = rising;
          begins = omega arith;
          stored = omega (arith, next_le none n desc starts rows L k kn, L.room);
          own = L.own k kn;
          fits = λ x lo hi. lt_of_lt_of_le (laid_inside k kn x lo hi) P.small;
          ascends = laid_ascends k kn;
          covers = λ u l um. let w = later p u l um in (get_or starts k 0 + 1 + w.0, stands k w.0 (get_or rows (b + u) 0) kn w.1 w.2);
        }

    -- the rows of a column past its second stand in that one's
    closed : (c x k : ℕ) → c < n → k < n → get_or starts c 0 < x → x < get_or starts (c + 1) 0 → get_or rows (get_or starts c 0 + 1) 0 ≡ k
        → (y : ℕ) × StandsAt rows (get_or starts k 0) (get_or starts (k + 1) 0) (get_or rows x 0) y
    closed c x k cn kn lo hi second = go (x - (get_or starts c 0 + 1)) (omega arith)
      where
        first : 0 < length (desc c) → row_at none (desc c) 0 ≡ k
        first h = sym (L.below c 0 cn h) ∙ ap (λ (i : ℕ). get_or rows i 0) (add-zero (get_or starts c 0 + 1)) ∙ second

        go : (q : ℕ) → x ≡ get_or starts c 0 + 1 + q → (y : ℕ) × StandsAt rows (get_or starts k 0) (get_or starts (k + 1) 0) (get_or rows x 0) y
        go zero e =
            let r : x ≡ get_or starts c 0 + 1 = omega arith in
            (get_or starts k 0, (le_refl (get_or starts k 0), omega (arith, L.next k kn), L.own k kn ∙ sym (ap (λ (i : ℕ). get_or rows i 0) r ∙ second)))
        go (suc q) e =
            let h : suc q < length (desc c) = omega (arith, L.next c cn) in
            let w = subst (λ (i : ℕ). (u : ℕ) × (u < length (desc i)) × (row_at none (desc i) u ≡ row_at none (desc c) (suc q))) (first (omega arith))
            (P.closed c 0 (suc q) cn (omega arith) h) in
            let r : row_at none (desc c) (suc q) ≡ get_or rows x 0 = sym (ap (λ (i : ℕ). get_or rows i 0) e ∙ L.below c (suc q) cn h) in
            let t = stands k w.0 (get_or rows x 0) kn w.1 (w.2 ∙ r) in
            (get_or starts k 0 + 1 + w.0, (omega arith, t.1, t.2))

    pub laid_walk : Walk starts rows b m
    laid_walk = record {
      started = λ p h. let k = inside p h in omega (arith, L.count);
      column = column;
      after = λ p h.
          let r : get_or rows (b + p) 0 < get_or rows (b + (p + 1)) 0 = rising p (p + 1) (omega arith) h in
          starts_le none n desc starts rows L (get_or rows (b + p) 0 + 1) (get_or rows (b + (p + 1)) 0) (omega arith) (le_of_lt (inside (p + 1) h));
      closed = λ p x h lo hi second. closed (get_or rows (b + p) 0) x (get_or rows (b + (p + 1)) 0) (inside p (omega arith)) (inside (p + 1) h) lo hi second;
    }

    pub laid_ends : (p : ℕ) → p < m → end_of starts rows b p ≤ get_or starts n 0
    laid_ends p h = next_le none n desc starts rows L (get_or rows (b + p) 0) (inside p h)

    pub laid_marked : (marker : List ℕ) → RowsMarked none (desc j) marker → DescendantsMarked rows b m marker
    laid_marked marker M = record {
      marked = λ p h. ap (λ (i : ℕ). get_or marker i 0) (row p h) ∙ M.marked p h;
      only = λ i p h pm e.
          let w = M.only i h (subst (λ (k : ℕ). k < max_dimension) (sym e) (lt_of_lt_of_le pm (degree_small none n desc P j jn))) in
          sym w.1 ∙ ap (row_at none (desc j)) e ∙ sym (row p pm);
    }

    -- a descendant's column is one after j
    pub laid_after : (p : ℕ) → p < m → (j < get_or rows (b + p) 0) × (get_or rows (b + p) 0 < n)
    laid_after p h = (subst (λ (k : ℕ). j < k) (sym (row p h)) (P.under j p jn h), inside p h)
