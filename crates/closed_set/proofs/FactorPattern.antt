-- A factor's pattern: the descendants of a column are the rows of its entries kept below the diagonal.
-- Assumes nothing.
use Rattle.std.specs.Prelude.{ℕ, ◌+◌, ◌≤◌, ◌<◌, ◌≡◌, Bool, true, List, length, get_or}
use Rattle.std.proofs.Common.{sym, ap, subst, ◌∙◌}
use Rattle.std.proofs.lemmas.List.{length-map}
use Rattle.lists.specs.Select.{select_at, select_holds}
use Rattle.columns.specs.Columns.{start, row}
use Rattle.columns.specs.Kept.{kept_below, desc_places, pattern}
use Rattle.columns.specs.Factor.{Factor}
use Rattle.columns.proofs.Pattern.{pattern_at, pattern_above, pattern_inside}
use Rattle.closed_set.specs.ClosedSet.{Pattern, descends}
use Rattle.closed_set.proofs.ClosedSet.{descends_at, descends_found}

module _ {n : ℕ} {starts rows : List ℕ} {values : ℕ} (nz : ℕ → Bool) (F : Factor n starts rows values) where
  -- it is a pattern of n columns
  pub factor_pattern : Pattern n (pattern starts rows nz)
  factor_pattern = record {
    below = λ c d h e.
        let f = descends_found (pattern starts rows nz) c d e in
        subst (λ (k : ℕ). c < k) f.2 (pattern_above nz F.starts_rise c h f.0 f.1);
    inside = λ c d h e.
        let f = descends_found (pattern starts rows nz) c d e in
        subst (λ (k : ℕ). k < n) f.2 (pattern_inside nz F.starts_rise F.rows_ascend c h f.0 f.1);
  }

  module _ (c : ℕ) (h : c < n) where
    -- an entry kept below the diagonal has a descendant's row
    pub entry_descends : (p : ℕ) → start starts c ≤ p → p < start starts (c + 1) → kept_below rows nz c p ≡ true
        → descends (pattern starts rows nz) c (row rows p) ≡ true
    entry_descends p lo hi t =
        let g = select_holds (kept_below rows nz c) (start starts c) (start starts (c + 1)) p lo hi t in
        let l : g.0 < length (pattern starts rows nz c) = rw length-map g.1 in
        subst (λ (d : ℕ). descends (pattern starts rows nz) c d ≡ true) (pattern_at nz F.starts_rise c h g.0 l ∙ ap (row rows) g.2)
        (descends_at (pattern starts rows nz) c g.0 l)

    -- and a descendant is the row of such an entry
    pub descends_entry : (d : ℕ) → descends (pattern starts rows nz) c d ≡ true
        → (p : ℕ) × (start starts c ≤ p) × (p < start starts (c + 1)) × (kept_below rows nz c p ≡ true) × (row rows p ≡ d)
    descends_entry d e =
        let f = descends_found (pattern starts rows nz) c d e in
        let u = select_at (kept_below rows nz c) (start starts c) (start starts (c + 1)) f.0 (F.starts_rise.rising c h) (rw length-map at f.1) in
        (get_or (desc_places starts rows nz c) f.0 0, u.from, u.below, u.passes, sym (pattern_at nz F.starts_rise c h f.0 f.1) ∙ f.2)
