-- A column's descendant found by its row, and the pair before as a search from column 0 on finds it.
-- Assumes nothing.
use Prim.Native.Nat.{ℕ, ◌+◌, ◌≤◌, ◌<◌}
use native.Mathlib.Omega.{arith}
use native.Mathlib.Decide.{dec_lt}
use mathlib.Core.Path.{◌≡◌, sym, ap, subst, ◌∙◌}
use mathlib.Core.Bool.{Bool, true, false, cond, ◌||◌}
use mathlib.Core.List.{List}
use borrow.Author.Tests.{leb-false}
use Rattle.lists.specs.Test.{any, any_below, any_in_below, same_truth, not_so, or_left, or_right}
use Rattle.columns.specs.Columns.{start, row, outside_at}
use Rattle.columns.specs.Kept.{kept_below, pattern}
use Rattle.columns.specs.Factor.{Factor, FirstFrom}
use Rattle.columns.proofs.Factor.{factor_column}
use Rattle.closed_set.specs.ClosedSet.{descends}
use Rattle.closed_set.proofs.FactorPattern.{entry_descends, descends_entry}
use Rattle.chains.proofs.Least.{least_most, least_is, least_none}
use Rattle.levels.specs.Back.{above_at, beside_at, back_column, back_row}

module _ {n : ℕ} {starts rows : List ℕ} {values : ℕ} (nz : ℕ → Bool) (F : Factor n starts rows values) (j d p : ℕ) (h : j < n)
    (P : FirstFrom d rows (start starts j) (start starts (j + 1)) p) where
  -- the entry of a descendant stands at the first place whose row is not below it
  here : descends (pattern starts rows nz) j d ≡ true → (p < start starts (j + 1)) × (row rows p ≡ d) × (kept_below rows nz j p ≡ true)
  here e =
      let g = descends_entry nz F j h d e in
      let q = g.0 in
      let C = factor_column F j h in
      let lo : p ≤ q = elim (dec_lt q p) [
        | yes l ↦ absurd (omega (arith, leb-false d (row rows q) (any_in_below (outside_at d rows) (start starts j) p q P.before g.1 l), g.4))
        | no l ↦ omega arith
      ] in
      let same : q ≡ p = elim (dec_lt p q) [
        | yes l ↦ absurd (omega (arith, P.stops (omega (arith, g.2)), C.ascends p q P.from l g.2, g.4))
        | no l ↦ omega arith
      ] in
      (omega (arith, g.2), ap (row rows) (sym same) ∙ g.4, subst (λ (i : ℕ). kept_below rows nz j i ≡ true) same g.3)

  pub descends_past : start starts (j + 1) ≤ p → descends (pattern starts rows nz) j d ≡ false
  descends_past l = not_so _ (λ e. omega (arith, (here e).0))

  pub descends_other : (row rows p ≡ d → ⊥) → descends (pattern starts rows nz) j d ≡ false
  descends_other l = not_so _ (λ e. l (here e).1)

  pub descends_here : p < start starts (j + 1) → row rows p ≡ d → kept_below rows nz j p ≡ descends (pattern starts rows nz) j d
  descends_here l e =
      same_truth _ _
      (λ k. subst (λ (i : ℕ). descends (pattern starts rows nz) j i ≡ true) e (entry_descends nz F j h p P.from l k))
      (λ k. (here k).2)

-- (c, j), then (r, j), for each column j
module _ (desc : ℕ → List ℕ) (W : ℕ → ℕ → ℕ) (level r c : ℕ) where
  abbrev pub either : ℕ → Bool
  either j = above_at desc W level r c j || beside_at desc W level r c j

  pub back_above : (j : ℕ) → j ≤ c → any either j ≡ false → above_at desc W level r c j ≡ true → (c ≡ back_row desc W level r c) × (j ≡ back_column desc W level r c)
  unfolding back_row back_column
  back_above j l none e =
      let q : back_column desc W level r c ≡ j = least_is either c j l (or_left (above_at desc W level r c j) _ e) (λ i m. any_below either j i none m) in
      (sym (ap (λ (b : Bool). cond b c r) (ap (above_at desc W level r c) q ∙ e)), sym q)

  pub back_beside : (j : ℕ) → j ≤ c → any either j ≡ false → above_at desc W level r c j ≡ false → beside_at desc W level r c j ≡ true
      → (r ≡ back_row desc W level r c) × (j ≡ back_column desc W level r c)
  unfolding back_row back_column
  back_beside j l none e f =
      let q : back_column desc W level r c ≡ j = least_is either c j l (or_right (above_at desc W level r c j) _ f) (λ i m. any_below either j i none m) in
      (sym (ap (λ (b : Bool). cond b c r) (ap (above_at desc W level r c) q ∙ e)), sym q)

  -- none before column c
  pub back_none : any either c ≡ false → above_at desc W level r c c ≡ false → (r ≡ back_row desc W level r c) × (c ≡ back_column desc W level r c)
  unfolding back_row back_column
  back_none none e =
      let q : back_column desc W level r c ≡ c = least_none either c (λ i m. any_below either c i none m) in
      (sym (ap (λ (b : Bool). cond b c r) (ap (above_at desc W level r c) q ∙ e)), sym q)

  back_most : back_column desc W level r c ≤ c
  unfolding back_column
  back_most = least_most either c

  -- it is in order, and its row not past r
  pub back_range : c ≤ r → (back_column desc W level r c ≤ back_row desc W level r c) × (back_row desc W level r c ≤ r)
  unfolding back_row
  back_range h = go (above_at desc W level r c (back_column desc W level r c)) back_most
    where
      go : (b : Bool) → back_column desc W level r c ≤ c → (back_column desc W level r c ≤ cond b c r) × (cond b c r ≤ r)
      go true l = (omega arith, omega arith)
      go false l = (omega arith, omega arith)
