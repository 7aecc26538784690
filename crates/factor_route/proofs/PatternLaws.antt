-- The diagonals and kept entries of a factor as the pattern of the factor-pattern route, and the lists of a result over them as its layout.
-- Assumes nothing.
use Prim.Native.Nat.{ℕ, zero, suc, ◌+◌, ◌≤◌, ◌<◌}
use native.Mathlib.Omega.{arith}
use native.Mathlib.Nat.{eq-or-lt_of_le, le_of_suc-le-suc, le_refl, le_of_lt, lt_trans, not-suc-le-zero, add-zero, max-eq_left, min-eq_right}
use mathlib.Core.Path.{◌≡◌, refl, sym, ap, ap₂, subst, subst₂, ◌∙◌}
use mathlib.Core.Bool.{Bool, true}
use mathlib.Core.Logic.{⊎_elim}
use mathlib.Core.List.{List, ◌∷◌, ◌++◌, map, map-map}
use lib.ListN.{length, get_or, take, length-take, length-map, get_or-append}
use lib.Seq.{get_or-take, get_or-append-add}
use lib.Ieee.{Float, nan}
use Rattle.refusal.specs.Bounds.{max_dimension}
use Rattle.lists.specs.Sum.{sum_to}
use Rattle.lists.specs.Select.{select, tally, get_d_mapped}
use Rattle.lists.specs.Tabulate.{tabulate_at}
use Rattle.lists.specs.Cells.{cells, cell_count, cell_count_next, cell_count_mono, cells-length}
use Rattle.pairs.specs.ColumnOrder.{by_column, column_first, column_end, set_size}
use Rattle.columns.specs.Kept.{nonzero, desc, pattern}
use Rattle.columns.specs.Factor.{Factor}
use Rattle.columns.specs.Form.{pattern_pair}
use Rattle.columns.proofs.Form.{pattern_pair_below}
use Rattle.columns.proofs.Pattern.{desc-pattern, pattern_above, pattern_inside, pattern_rises, kept_pair-pattern, kept_pair_below}
use Rattle.closed_set.specs.ClosedSet.{Closed}
use Rattle.closed_set.proofs.ClosedSet.{descends_at}
use Rattle.closed_set.proofs.KeptSet.{pattern_pair_column}
use Rattle.entries.specs.Entries.{column_count, entry_starts, entry_rows, entry_values}
use Rattle.entries.proofs.Entries.{entry_starts-length, entry_rows_length}
use Rattle.takahashi.specs.Recurrence.{Entry}
use Rattle.scatter.specs.Scatter.{blank, row_at, ClosedPattern, Laid, column_values, columns_values}

-- ---- lists of cells
module _ (S : ℕ → ℕ → Bool) (lo hi : ℕ → ℕ) {A : Type 0} (f : ℕ → ℕ → A) (d : A) where
  -- what stands at a place of an outer index
  pub cells_at : (m o x : ℕ) → o < m → x < tally (S o) (lo o) (hi o)
      → get_or (cells S lo hi f m) (cell_count S lo hi o + x) d ≡ f o (get_or (select (S o) (lo o) (hi o)) x 0)
  unfolding cells
  cells_at zero o x h l = absurd (not-suc-le-zero h)
  cells_at (suc m) o x h l =
      ⊎_elim
      (λ e.
      subst (λ (k : ℕ). x < tally (S k) (lo k) (hi k)
      → get_or (cells S lo hi f (suc m)) (cell_count S lo hi k + x) d ≡ f k (get_or (select (S k) (lo k) (hi k)) x 0))
      (sym e) last l)
      (λ q.
      let b : cell_count S lo hi o + x < length (cells S lo hi f m) =
      omega (arith, cells-length S lo hi f m, cell_count_next S lo hi o, cell_count_mono S lo hi (o + 1) m (omega arith)) in
      get_or-append (cells S lo hi f m) (map (f m) (select (S m) (lo m) (hi m))) d (cell_count S lo hi o + x) b ∙ cells_at m o x q l)
      (eq-or-lt_of_le (le_of_suc-le-suc h))
    where
      last : x < tally (S m) (lo m) (hi m)
          → get_or (cells S lo hi f m ++ map (f m) (select (S m) (lo m) (hi m))) (cell_count S lo hi m + x) d ≡ f m (get_or (select (S m) (lo m) (hi m)) x 0)
      last k =
          ap (λ (i : ℕ). get_or (cells S lo hi f m ++ map (f m) (select (S m) (lo m) (hi m))) (i + x) d) (sym (cells-length S lo hi f m))
          ∙ get_or-append-add (cells S lo hi f m) (map (f m) (select (S m) (lo m) (hi m))) x d
          ∙ get_d_mapped (f m) (select (S m) (lo m) (hi m)) x 0 d k

-- ---- a factor
module _ (n : ℕ) (starts rows : List ℕ) (values : List Float) (F : Factor n starts rows (length values)) where
  abbrev K : ℕ → ℕ → Bool
  K = pattern_pair starts rows (nonzero values)

  abbrev rows_of : ℕ → List ℕ
  rows_of = pattern starts rows (nonzero values)

  -- the rows of a column are its own and its descendants'
  column_kept : (c : ℕ) → c < n → select (by_column K c) c n ≡ c ∷ rows_of c
  column_kept = pattern_pair_column (nonzero values) F.starts_rise F.rows_ascend

  desc-length : (c : ℕ) → length (desc starts rows values c) ≡ length (rows_of c)
  desc-length c = sym (length-map (desc starts rows values c) (λ (e : Entry Float). e.row)) ∙ ap length (desc-pattern starts rows values c)

  -- a descendant's row is the pattern's
  desc_row : (c p : ℕ) → p < length (desc starts rows values c) → row_at nan (desc starts rows values c) p ≡ get_or (rows_of c) p 0
  desc_row c p h =
      sym (get_d_mapped (λ (e : Entry Float). e.row) (desc starts rows values c) p (blank nan) 0 h)
      ∙ ap (λ (l : List ℕ). get_or l p 0) (desc-pattern starts rows values c)

  in_pattern : (c p : ℕ) → p < length (desc starts rows values c) → p < length (rows_of c)
  in_pattern c p h = subst (λ (k : ℕ). p < k) (desc-length c) h

  -- of two descendants the later is one of the earlier's
  closed_rows : Closed n rows_of K → (j p u : ℕ) → j < n → p < u → u < length (rows_of j)
      → (q : ℕ) × (q < length (rows_of (get_or (rows_of j) p 0))) × (get_or (rows_of (get_or (rows_of j) p 0)) q 0 ≡ get_or (rows_of j) u 0)
  closed_rows C j p u jn l h =
      let nz = nonzero values in
      let k = get_or (rows_of j) p 0 in
      let i = get_or (rows_of j) u 0 in
      let below : k < i = pattern_rises nz F.starts_rise F.rows_ascend j jn p u l h in
      let inside : i < n = pattern_inside nz F.starts_rise F.rows_ascend j jn u h in
      let above : j < i = pattern_above nz F.starts_rise j jn u h in
      let t = C i j k (le_of_lt above) inside (descends_at rows_of j p (lt_trans l h))
      (pattern_pair_below starts rows nz i j above ∙ kept_pair-pattern nz F.starts_rise j jn u h) in
      kept_pair_below nz F.starts_rise k (lt_trans below inside) i below
      (sym (pattern_pair_below starts rows nz i k below)
      ∙ subst₂ (λ (a b : ℕ). K a b ≡ true) (max-eq_left (le_of_lt below)) (min-eq_right (le_of_lt below)) t)

  pub kept_pattern : n ≤ max_dimension → Closed n rows_of K → ClosedPattern nan n (desc starts rows values)
  kept_pattern small C = record {
    small = small;
    under = λ j p jn h. subst (λ (k : ℕ). j < k) (sym (desc_row j p h)) (pattern_above nz F.starts_rise j jn p (in_pattern j p h));
    fits = λ j p jn h. subst (λ (k : ℕ). k < n) (sym (desc_row j p h)) (pattern_inside nz F.starts_rise F.rows_ascend j jn p (in_pattern j p h));
    up = λ j p u jn l h.
        subst₂ (λ (a b : ℕ). a < b) (sym (desc_row j p (lt_trans l h))) (sym (desc_row j u h))
        (pattern_rises nz F.starts_rise F.rows_ascend j jn p u l (in_pattern j u h));
    closed = λ j p u jn l h.
        let e = desc_row j p (lt_trans l h) in
        let w = closed_rows C j p u jn l (in_pattern j u h) in
        subst (λ (k : ℕ). (q : ℕ) × (q < length (desc starts rows values k))
        × (row_at nan (desc starts rows values k) q ≡ row_at nan (desc starts rows values j) u))
        (sym e) (
          w.0,
          subst (λ (k : ℕ). w.0 < k) (sym (desc-length (get_or (rows_of j) p 0))) w.1,
          desc_row (get_or (rows_of j) p 0) w.0 (subst (λ (k : ℕ). w.0 < k) (sym (desc-length (get_or (rows_of j) p 0))) w.1) ∙ w.2 ∙ sym (desc_row j u h),
        );
  }
    where
      nz : ℕ → Bool
      nz = nonzero values

  -- ---- the result's lists
  -- a column of the set has its diagonal and its descendants
  column_size : (c : ℕ) → c < n → tally (by_column K c) c n ≡ suc (length (desc starts rows values c))
  column_size c h = ap length (column_kept c h) ∙ ap suc (sym (desc-length c))

  -- the values of a table at the pattern's pairs are its columns read at the pattern
  pub kept_values : (Z : ℕ → ℕ → Float) → columns_values Z (desc starts rows values) n ≡ entry_values n K Z
  unfolding columns_values cells
  kept_values Z = go n (le_refl n)
    where
      column : (c : ℕ) → c < n → column_values Z (desc starts rows values) c ≡ map (λ r. Z r c) (select (by_column K c) c n)
      column c h =
          ap (λ (l : List Float). Z c c ∷ l)
          (sym (ap (map (λ r. Z r c)) (sym (desc-pattern starts rows values c))
          ∙ map-map (λ r. Z r c) (λ (e : Entry Float). e.row) (desc starts rows values c)))
          ∙ ap (map (λ r. Z r c)) (sym (column_kept c h))

      go : (k : ℕ) → k ≤ n → columns_values Z (desc starts rows values) k ≡ cells (by_column K) column_first (column_end n) (λ c r. Z r c) k
      go zero h = refl
      go (suc k) h = ap₂ (λ (a b : List Float). a ++ b) (go k (le_of_lt h)) (column k h)

  module _ (es er : List ℕ) (laid_starts : take (n + 1) es ≡ entry_starts n K) (laid_rows : take (set_size n K) er ≡ entry_rows n K) where
    starts_at : (c : ℕ) → c ≤ n → get_or es c 0 ≡ column_count n K c
    starts_at c h =
        sym (get_or-take (n + 1) es c 0 (omega arith)) ∙ ap (λ (l : List ℕ). get_or l c 0) laid_starts ∙ tabulate_at (column_count n K) (n + 1) c 0 (omega arith)

    -- the row at the x-th place of column c
    rows_at : (c x : ℕ) → c < n → x < suc (length (desc starts rows values c)) → get_or er (get_or es c 0 + x) 0 ≡ get_or (c ∷ rows_of c) x 0
    rows_at c x h l =
        let t : x < tally (by_column K c) c n = omega (arith, column_size c h) in
        let b : column_count n K c + x < set_size n K =
        omega (
          arith,
          cell_count_next (by_column K) column_first (column_end n) c,
          cell_count_mono (by_column K) column_first (column_end n) (c + 1) n
              (omega arith),
        ) in
        ap (λ (k : ℕ). get_or er (k + x) 0) (starts_at c (le_of_lt h)) ∙ sym (get_or-take (set_size n K) er (column_count n K c + x) 0 b)
        ∙ ap (λ (l : List ℕ). get_or l (column_count n K c + x) 0) laid_rows ∙ cells_at (by_column K) column_first (column_end n) (λ c r. r) 0 n c x h t
        ∙ ap (λ (l : List ℕ). get_or l x 0) (column_kept c h)

    pub kept_laid : Laid nan n (desc starts rows values) es er
    unfolding cell_count sum_to
    kept_laid = record {
      count = omega (arith, ap length laid_starts, length-take (n + 1) es, entry_starts-length n K);
      start = starts_at 0 (omega arith);
      next = λ c h.
          let e : column_count n K (c + 1) ≡ column_count n K c + tally (by_column K c) c n = cell_count_next (by_column K) column_first (column_end n) c in
          starts_at (c + 1) (omega arith) ∙ e ∙ ap₂ (λ (a b : ℕ). a + b) (sym (starts_at c (le_of_lt h))) (column_size c h);
      room = omega (arith, starts_at n (le_refl n), ap length laid_rows, length-take (set_size n K) er, entry_rows_length n K);
      own = λ c h. ap (λ (k : ℕ). get_or er k 0) (sym (add-zero (get_or es c 0))) ∙ rows_at c 0 h (omega arith);
      below = λ c p h l.
          let q : get_or es c 0 + 1 + p ≡ get_or es c 0 + suc p = omega arith in
          ap (λ (k : ℕ). get_or er k 0) q ∙ rows_at c (suc p) h (omega arith) ∙ sym (desc_row c p l);
    }

    pub kept_size : get_or es n 0 ≡ set_size n K
    kept_size = starts_at n (le_refl n)
