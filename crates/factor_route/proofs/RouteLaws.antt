-- The columns of the factor-pattern route, one after the other.
-- Assumes nothing.
use Prim.Native.Nat.{ℕ, suc, ◌+◌, ◌-◌, ◌≤◌, ◌<◌}
use native.Mathlib.Omega.{arith}
use native.Mathlib.Nat.{lt_of_lt_of_le}
use mathlib.Core.Path.{◌≡◌, sym, ap, ap₂, subst, ◌∙◌}
use mathlib.Core.List.{List}
use lib.ListN.{length, get_or, take, drop, length-drop}
use lib.Seq.{length-take-le}
use lib.Ieee.{Float, nan}
use Rattle.refusal.specs.Bounds.{max_dimension}
use Rattle.lists.specs.Overwrite.{overwrite, splice}
use Rattle.takahashi.specs.Recurrence.{Entry, table}
use Rattle.columns.specs.Columns.{start}
use Rattle.columns.specs.Kept.{nonzero, desc}
use Rattle.columns.specs.Form.{Form, divisor, pattern_pair}
use Rattle.columns.proofs.Factor.{factor_column, starts_end}
use Rattle.entries.specs.Entries.{entry_values, form_table}
use Rattle.exact.specs.Exact.{floats}
use Rattle.exact.specs.Multiple.{zero_float}
use Rattle.scatter.specs.Scatter.{weigh, clear, unmarks, Between, stepped, ClosedPattern, Laid, Known, Filled, column_values}
use Rattle.scatter.proofs.Marks.{weigh_long, marks_marked, unmarks-empties}
use Rattle.scatter.proofs.ClosedPattern.{degree, degree_small, width, next_le}
use Rattle.scatter.proofs.Column.{sums_cleared, column_right}
use Rattle.scatter.proofs.Values.{columns_none, columns_next, filled_end}
use Rattle.factor_route.specs.ColumnMarks.{desc_between, ColumnMarked, Stored}
use Rattle.factor_route.specs.Walk.{DescendantsMarked, Walk, ValuesEnough, ColumnsAre, Scattered}
use Rattle.factor_route.proofs.PatternLaws.{kept_pattern, kept_values, kept_laid, kept_size}
use Rattle.factor_route.proofs.LaidLaws.{laid_walk, laid_ends, laid_marked, laid_after}
use Rattle.factor_route.specs.Route.{RouteInput, WorkRows, ColumnWritten}

-- the columns from j on are the recurrence's, and what stands past the result is as before
abbrev pub Done : Form → ℕ → List ℕ → List ℕ → List Float → List ℕ → List ℕ → List Float → ℕ → List Float → Type 0
Done form n starts rows values es er old j v = Filled nan n (desc starts rows values) es er (form_table form n starts rows values) old j v

-- ---- one column
module _ {form : Form} {n : ℕ} {starts rows : List ℕ} {values : List Float} {es er : List ℕ} {total : ℕ}
    (R : RouteInput form n starts rows values es er total) where
  abbrev Z : ℕ → ℕ → Float
  Z = form_table form n starts rows values

  -- what the entries of a column are finished with
  abbrev divides : ℕ → Float
  divides = divisor n starts rows values form

  P : ClosedPattern nan n (desc starts rows values)
  P = kept_pattern n starts rows values R.factor R.small R.closed

  L : Laid nan n (desc starts rows values) es er
  L = kept_laid n starts rows values R.factor es er R.laid_starts R.laid_rows

  filled_room : get_or es n 0 ≤ total
  filled_room =
      omega (arith, kept_size n starts rows values R.factor es er R.laid_starts R.laid_rows, R.room)

  module _ (j : ℕ) (jn : j < n) where
    next : get_or es (j + 1) 0 ≡ get_or es j 0 + suc (length (desc starts rows values j))
    next = L.next j jn

    ends : get_or es (j + 1) 0 ≤ get_or es n 0
    ends = next_le nan n (desc starts rows values) es er L j jn

    pub route_starts : (j + 1 < length starts) × (j + 1 < length es)
    route_starts = (omega (arith, R.factor.starts_rise.columns), omega (arith, L.count))

    pub route_stored : (s t : ℕ) → s ≡ start starts j → t ≡ start starts (j + 1) → Stored rows values j s t
    route_stored s t p q =
        let C = factor_column R.factor j jn in
        let e = starts_end R.factor.starts_rise (j + 1) (omega arith) in
        rw (p, q) (record {
          ordered = C.ordered;
          stored = C.stored;
          weighed = C.weighed;
          fits = λ x lo hi. lt_of_lt_of_le (R.factor.rows_ascend.inside x (omega arith)) R.small;
          few = lt_of_lt_of_le (degree nan n (desc starts rows values) P j jn) R.small;
        })

    -- how many are marked
    counted : (s t m : ℕ) → s ≡ start starts j → t ≡ start starts (j + 1) → m ≡ length (desc_between rows values j s t)
        → m ≡ length (desc starts rows values j)
    counted s t m p q e = e ∙ ap₂ (λ (x y : ℕ). length (desc_between rows values j x y)) p q

    module _ (a s t m : ℕ) (ea : a ≡ get_or es j 0) (es' : s ≡ start starts j) (et : t ≡ start starts (j + 1))
        (em : m ≡ length (desc_between rows values j s t)) where
      pub route_first : a + 1 + m ≤ length er
      route_first = omega (arith, counted s t m es' et em, next, ends, L.room)

      pub route_walk : Walk es er (a + 1) m × ValuesEnough es er (a + 1) m total
      route_walk = rw (ea, counted s t m es' et em) (
        laid_walk nan n (desc starts rows values) P es er L j jn,
        λ p h. omega (arith, laid_ends nan n (desc starts rows values) P es er L j jn p h, filled_room),
      )

      -- the marker that marking leaves
      pub route_marked : (marker : List ℕ) (weights sums : List Float) (marker₁ : List ℕ) (weights₁ sums₁ : List Float) → WorkRows marker weights sums
          → ColumnMarked (desc_between rows values j s t) m marker weights sums marker₁ weights₁ sums₁ → DescendantsMarked er (a + 1) m marker₁
      route_marked marker weights sums marker₁ weights₁ sums₁ W M =
          rw (ea, M.marker_is, W.marker_is, ap₂ (λ (x y : ℕ). desc_between rows values j x y) es' et, counted s t m es' et em)
          (laid_marked nan n (desc starts rows values) P es er L j jn _
          (marks_marked nan (desc starts rows values j) (λ p u. P.up j p u jn) (λ p h. lt_of_lt_of_le (P.fits j p jn h) R.small)))

      pub route_unmark : (a + 1 + m ≤ length er) × ((x : ℕ) → x < m → get_or er (a + 1 + x) 0 < max_dimension)
      route_unmark = (
        route_first,
        rw (ea, counted s t m es' et em)
            (λ x h. subst (λ (k : ℕ). k < max_dimension) (sym (L.below j x jn h)) (lt_of_lt_of_le (P.fits j x jn h) R.small)),
      )

      pub route_step : (e : ℕ) → e ≡ get_or es (j + 1) 0 → (a + m < e) × (e ≤ total) × (m ≤ max_dimension)
      route_step e ee =
          let d = degree_small nan n (desc starts rows values) P j jn in
          omega (arith, counted s t m es' et em, next, ends, filled_room)

      -- what the calls of the column leave, with the last steps of the form
      pub route_column_lem : (off on : Float → Float → Float) → form_table form n starts rows values ≡ table floats off on n divides (desc starts rows values)
          → (e : ℕ) (d : Float) (v v' : List Float) (marker : List ℕ) (weights sums : List Float) (marker₁ : List ℕ)
          (weights₁ sums₁ sums₂ : List Float)
          (marker₂ : List ℕ) → e ≡ get_or es (j + 1) 0 → WorkRows marker weights sums → length v ≡ total
          → Known nan n (desc starts rows values) es er Z (j + 1) v
          → ColumnMarked (desc_between rows values j s t) m marker weights sums marker₁ weights₁ sums₁
          → Scattered (ColumnsAre es er v (a + 1) m) er (a + 1) m weights₁ 0 m sums₁ sums₂
          → d ≡ divides j
          → v' ≡ splice a (stepped floats off on nan d weights₁ sums₂ (take (e - a) (drop a v)) m) v
          → marker₂ ≡ unmarks er (a + 1) marker₁ m
          → ColumnWritten form n starts rows values es j v v' marker₂ weights₁ sums₂
      route_column_lem off on told e d v v' marker weights sums marker₁ weights₁ sums₁ sums₂ marker₂ ee W lv Kn M S ed ev eu = record {
        rest = record {
          marker_is =
              rw (eu, ea, M.marker_is, W.marker_is, ds_m, m_m)
              (unmarks-empties nan (desc starts rows values j) (λ p u. P.up j p u jn) (λ p h. lt_of_lt_of_le (P.fits j p jn h) R.small) er
              (get_or es j 0 + 1)
              (λ p h. L.below j p jn h));
          weights_long = ap length M.weights_is ∙ weigh_long nan (desc_between rows values j s t) weights m ∙ W.weights_long;
          sums_long = whole.long;
        };
        values_are =
            rw (ev, ed, ew, m_m, ea, ee)
            (ap (λ (l : List Float). splice (get_or es j 0) l v)
            (column_right floats off on nan n (desc starts rows values) P es er L divides j jn weights W.weights_long
            sums₂ whole
            (take (get_or es (j + 1) 0 - get_or es j 0) (drop (get_or es j 0) v)) long
            ∙ ap (λ (Y : ℕ → ℕ → Float). column_values Y (desc starts rows values) j) (sym told)));
      }
        where
          ds_m : desc_between rows values j s t ≡ desc starts rows values j
          ds_m = ap₂ (λ (x y : ℕ). desc_between rows values j x y) es' et

          m_m : m ≡ length (desc starts rows values j)
          m_m = counted s t m es' et em

          ew : weights₁ ≡ weigh nan (desc starts rows values j) weights (length (desc starts rows values j))
          ew = M.weights_is ∙ ap₂ (λ (x : List (Entry Float)) (k : ℕ). weigh nan x weights k) ds_m m_m

          T : ℕ → ℕ → Float
          T = table floats off on n divides (desc starts rows values)

          after_told : Known nan n (desc starts rows values) es er T (j + 1) v
          after_told = subst (λ (Y : ℕ → ℕ → Float). Known nan n (desc starts rows values) es er Y (j + 1) v) told Kn

          -- the columns after j are the table's
          known : ColumnsAre es er v (get_or es j 0 + 1) (length (desc starts rows values j)) T
          known = record {
            column = λ p h.
                let k : ℕ = get_or er (get_or es j 0 + 1 + p) 0 in
                let w = laid_after nan n (desc starts rows values) P es er L j jn p h in record {
                  value = λ x lo hi.
                      let q : get_or es k 0 + (x - get_or es k 0) ≡ x = omega arith in
                      subst (λ (i : ℕ). get_or v i nan ≡ T (get_or er i 0) k) q
                      (after_told.value k (x - get_or es k 0) (omega (arith, w.0)) w.1 (omega (arith, L.next k w.1)));
                };
          }

          whole :
              Between floats nan T er (get_or es j 0 + 1) (length (desc starts rows values j))
              (weigh nan (desc starts rows values j) weights (length (desc starts rows values j)))
              (length (desc starts rows values j))
              sums₂
          whole =
              (rw (ea, m_m, ew) at (S)).sums_are T known
              (subst (λ (l : List Float). Between floats nan T er (get_or es j 0 + 1) (length (desc starts rows values j))
              (weigh nan (desc starts rows values j) weights (length (desc starts rows values j))) 0 l)
              (sym (M.sums_is ∙ ap (clear zero_float sums) m_m))
              (sums_cleared floats off on nan n (desc starts rows values) P es er L divides j jn weights W.weights_long sums
              W.sums_long))

          long : length (take (get_or es (j + 1) 0 - get_or es j 0) (drop (get_or es j 0) v)) ≡ suc (length (desc starts rows values j))
          long =
              length-take-le (get_or es (j + 1) 0 - get_or es j 0) (drop (get_or es j 0) v)
              (omega (arith, length-drop (get_or es j 0) v, ends, filled_room))
              ∙ width nan n (desc starts rows values) es er L j jn

  -- ---- all columns
  module _ (old : List Float) (lo : length old ≡ total) where
    room_old : get_or es n 0 ≤ length old
    room_old = omega (arith, filled_room)

    pub route_none : Done form n starts rows values es er old n old
    route_none = columns_none nan n (desc starts rows values) es er L Z old room_old

    -- where the loop turns
    pub route_turn : (j : ℕ) (v : List Float) → 0 < j → Done form n starts rows values es er old j v → Done form n starts rows values es er old (j - 1 + 1) v
    route_turn j v h F =
        let q : j ≡ j - 1 + 1 = omega arith in
        subst (λ (k : ℕ). Done form n starts rows values es er old k v) q F

    pub route_next : (j : ℕ) (v v' : List Float) (marker : List ℕ) (weights sums : List Float) → j < n → Done form n starts rows values es er old (j + 1) v
        → ColumnWritten form n starts rows values es j v v' marker weights sums → Done form n starts rows values es er old j v'
    route_next j v v' marker weights sums jn F D =
        subst (λ (l : List Float). Done form n starts rows values es er old j l) (sym D.values_are)
        (columns_next nan n (desc starts rows values) es er L Z old room_old j v jn F)

    pub route_end : (j : ℕ) (v : List Float) → j ≡ 0 → Done form n starts rows values es er old j v
        → v ≡ overwrite (entry_values n (pattern_pair starts rows (nonzero values)) Z) old
    route_end j v e F =
        filled_end nan n (desc starts rows values) es er L Z old room_old v
        (subst (λ (k : ℕ). Done form n starts rows values es er old k v) e F)
        ∙ ap (λ (l : List Float). overwrite l old) (kept_values n starts rows values R.factor Z)

  -- the input of a call within, whose value list is as long
  pub route_input : (m : ℕ) → m ≡ total → RouteInput form n starts rows values es er m
  route_input m e = subst (λ (k : ℕ). RouteInput form n starts rows values es er k) (sym e) R
