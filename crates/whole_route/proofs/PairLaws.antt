-- What an entry of the recurrence over a closed set reads: the pair with each descendant is a member, and where it stands.
-- Assumes nothing.
use Prim.Native.Nat.{ℕ, ◌+◌, ◌≤◌, ◌<◌, min, max}
use native.Mathlib.Omega.{arith}
use mathlib.Core.Path.{◌≡◌, ap, subst, ◌∙◌}
use mathlib.Core.Bool.{Bool, true}
use mathlib.Core.List.{List}
use lib.Dec.{ltb}
use lib.ListN.{length, length-map}
use lib.IntN.{ℤ}
use borrow.Author.Tests.{ltb-true}
use Rattle.lists.specs.Test.{and_left}
use Rattle.lists.specs.Select.{select_holds}
use Rattle.pairs.specs.ColumnOrder.{column_marking, set_size}
use Rattle.pairs.specs.Positions.{position_at}
use Rattle.columns.specs.Columns.{start, row}
use Rattle.columns.specs.Kept.{kept_below, pattern}
use Rattle.columns.specs.Factor.{Column}
use Rattle.columns.proofs.Factor.{factor_column}
use Rattle.columns.proofs.Pattern.{pattern_at}
use Rattle.columns.specs.WholeFactor.{whole_nonzero}
use Rattle.closed_set.specs.ClosedSet.{descends}
use Rattle.closed_set.proofs.ClosedSet.{descends_at}
use Rattle.entries.specs.Entries.{column_count, position}
use Rattle.entries.proofs.Position.{column_count_mono, position_below}
use Rattle.whole_route.specs.Route.{WholeSet}

module _ {n : ℕ} {starts rows : List ℕ} {values : List ℤ} {scratch : List ℕ} (W : WholeSet n starts rows values scratch) where
  abbrev S : ℕ → ℕ → Bool
  S = column_marking n scratch

  abbrev nz : ℕ → Bool
  nz = whole_nonzero values

  -- a stored entry kept below the diagonal of column j
  abbrev pub Kept : ℕ → ℕ → Type 0
  Kept j p = (start starts j ≤ p) × (p < start starts (j + 1)) × (kept_below rows nz j p ≡ true)

  pub row_below : (j p : ℕ) → Kept j p → j < row rows p
  row_below j p k = ltb-true j (row rows p) (and_left (ltb j (row rows p)) (nz p) k.2)

  pub column : (j : ℕ) → j < n → Column rows (length values) (start starts j) (start starts (j + 1))
  column j jn = factor_column W.factor j jn

  pub row_inside : (j : ℕ) → j < n → (p : ℕ) → start starts j ≤ p → p < start starts (j + 1) → row rows p < n
  row_inside j jn p lo hi = W.factor.rows_ascend.inside p (omega (arith, (column j jn).stored))

  module _ (i j : ℕ) (ordered : j ≤ i) (inside : i < n) (member : S i j ≡ true) where
    jn : j < n
    jn = omega (arith, ordered, inside)

    -- the pair with a descendant is a member
    pub pair_member : (p : ℕ) → Kept j p → S (max i (row rows p)) (min i (row rows p)) ≡ true
    pair_member p k =
        let g = select_holds (kept_below rows nz j) (start starts j) (start starts (j + 1)) p k.0 k.1 k.2 in
        let b : g.0 < length (pattern starts rows nz j) = rw length-map g.1 in
        let d : descends (pattern starts rows nz) j (row rows p) ≡ true =
        subst (λ (x : ℕ). descends (pattern starts rows nz) j x ≡ true) (pattern_at nz W.factor.starts_rise j jn g.0 b ∙ ap (row rows) g.2)
        (descends_at (pattern starts rows nz) j g.0 b) in
        W.closed i j (row rows p) ordered inside d member

    -- its position stands in the scratch
    pub read_is : (p : ℕ) → Kept j p → position_at n scratch i (row rows p) ≡ position n S (max i (row rows p)) (min i (row rows p))
    read_is p k =
        let kn = row_inside j jn p k.0 k.1 in
        W.positions (max i (row rows p)) (min i (row rows p)) (omega arith) (omega (arith, inside)) (pair_member p k)

    pub read_place : (p : ℕ) → Kept j p → position_at n scratch i (row rows p) < set_size n S
    read_place p k =
        let kn = row_inside j jn p k.0 k.1 in
        let b = position_below n S (max i (row rows p)) (min i (row rows p)) n (omega arith) (omega (arith, inside)) (omega (arith, inside)) (pair_member p k) in
        omega (arith, read_is p k)

    -- below the diagonal it is of a later column
    pub read_behind : j < i → (p : ℕ) → Kept j p → column_count n S (j + 1) ≤ position_at n scratch i (row rows p)
    read_behind h p k =
        let l = row_below j p k in
        let from : column_count n S (min i (row rows p)) ≤ position n S (max i (row rows p)) (min i (row rows p)) = omega arith in
        omega (arith, read_is p k, column_count_mono n S (j + 1) (min i (row rows p)) (omega arith))
