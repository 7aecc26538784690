-- The pattern of a factor that passes: descendants between the column and n, ascending; a column keeps its diagonal and its descendants.
-- Assumes nothing.
use Rattle.std.specs.Prelude.{ℕ, ◌+◌, ◌≤◌, ◌<◌, ◌≡◌, refl, Bool, true, false, ◌&&◌, List, map, ltb, leb, eqb, Float}
use Rattle.std.proofs.Common.{arith, sym, ◌∙◌}
use Rattle.std.proofs.Math.Path.{ap}
use Rattle.std.proofs.lemmas.Simd.{map-map}
use Rattle.std.proofs.Math.ListN.{length, get_or, length-map}
use borrow.Author.Tests.{ltb-true, ltb-false, leb-true, leb-false, eqb-true, eqb-false, lt-ltb, le-leb, eq-eqb}
use Rattle.lists.specs.Test.{any_in_found, any_in-hit, and_left, and_right, and_both}
use Rattle.lists.specs.Select.{select, Picked, select_at, select_holds, select_cong, get_d_mapped, tally-split, tally_once}
use Rattle.lists.specs.Sum.{bit, sum_to, sum_to_eq}
use Rattle.lists.specs.Rising.{rising_same}
use Rattle.takahashi.specs.Entries.{Entry}
use Rattle.columns.specs.Columns.{start, row}
use Rattle.columns.specs.Kept.{entry, nonzero, kept, kept_diagonal, kept_below, kept_row, desc_places, desc, pattern, kept_pair, kept_count, factor_pairs}
use Rattle.columns.specs.Factor.{Starts, Sorted}
use Rattle.columns.proofs.Factor.{starts_end, rows_rise}
use Rattle.columns.specs.Diagonal.{Diagonal}

-- the descendants' rows are the pattern
pub desc-pattern : (starts rows : List ℕ) (values : List Float) (c : ℕ)
    → map (λ (e : Entry Float). e.row) (desc starts rows values c) ≡ pattern starts rows (nonzero values) c
desc-pattern starts rows values c = map-map (λ (e : Entry Float). e.row) _ (desc_places starts rows (nonzero values) c)

-- what is kept below the diagonal is kept
pub kept_below_kept : (rows : List ℕ) (nz : ℕ → Bool) (c p : ℕ) → kept_below rows nz c p ≡ true → kept rows nz c p ≡ true
kept_below_kept rows nz c p t =
    let l = ltb-true c (row rows p) (and_left (ltb c (row rows p)) (nz p) t) in
    and_both (leb c (row rows p)) (nz p) (le-leb c (row rows p) (omega arith)) (and_right (ltb c (row rows p)) (nz p) t)

-- a descendant's row and value are those of its place
pub desc_at : (starts rows : List ℕ) (values : List Float) (c i : ℕ) (d : Entry Float) → i < length (pattern starts rows (nonzero values) c)
    → get_or (desc starts rows values c) i d ≡ entry rows values (get_or (desc_places starts rows (nonzero values) c) i 0)
desc_at starts rows values c i d l = get_d_mapped _ (desc_places starts rows (nonzero values) c) i 0 d (rw length-map at l)

module _ {n : ℕ} {starts rows : List ℕ} (nz : ℕ → Bool) (S : Starts n starts rows) (c : ℕ) (h : c < n) where
  -- a row of the pattern is that of its place
  pub pattern_at : (i : ℕ) → i < length (pattern starts rows nz c) → get_or (pattern starts rows nz c) i 0 ≡ row rows (get_or (desc_places starts rows nz c) i 0)
  pattern_at i l = get_d_mapped (row rows) (desc_places starts rows nz c) i 0 0 (rw length-map at l)

  -- descendants lie below the diagonal
  pub pattern_above : (i : ℕ) → i < length (pattern starts rows nz c) → c < get_or (pattern starts rows nz c) i 0
  pattern_above i l =
      let u = select_at (kept_below rows nz c) (start starts c) (start starts (c + 1)) i (S.rising c h) (rw length-map at l) in
      rw (pattern_at i l) (ltb-true _ _ (and_left (ltb c (row rows (get_or (desc_places starts rows nz c) i 0))) _ u.passes))

  -- and are kept
  pub kept_pair-pattern : (i : ℕ) → i < length (pattern starts rows nz c) → kept_pair starts rows nz (get_or (pattern starts rows nz c) i 0) c ≡ true
  unfolding kept_pair
  kept_pair-pattern i l =
      let u = select_at (kept_below rows nz c) (start starts c) (start starts (c + 1)) i (S.rising c h) (rw length-map at l) in
      let p = get_or (desc_places starts rows nz c) i 0 in
      let r = get_or (pattern starts rows nz c) i 0 in
      any_in-hit (kept_row rows nz r c) (start starts c) (start starts (c + 1)) p u.from u.below
      (and_both (eqb (row rows p) r) (kept rows nz c p) (eq-eqb _ _ (sym (pattern_at i l))) (kept_below_kept rows nz c p u.passes))

  -- a kept entry below the diagonal is a descendant
  pub kept_pair_below : (r : ℕ) → c < r → kept_pair starts rows nz r c ≡ true
      → (i : ℕ) × (i < length (pattern starts rows nz c)) × (get_or (pattern starts rows nz c) i 0 ≡ r)
  unfolding kept_pair
  kept_pair_below r below t =
      let f = any_in_found (kept_row rows nz r c) (start starts c) (start starts (c + 1)) t in
      let p = f.0 in
      let q : row rows p ≡ r = eqb-true _ _ (and_left (eqb (row rows p) r) (kept rows nz c p) f.3) in
      let k = and_right (eqb (row rows p) r) (kept rows nz c p) f.3 in
      let b = and_both (ltb c (row rows p)) (nz p) (lt-ltb c (row rows p) (omega arith)) (and_right (leb c (row rows p)) (nz p) k) in
      let g = select_holds (kept_below rows nz c) (start starts c) (start starts (c + 1)) p f.1 f.2 b in
      let l : g.0 < length (pattern starts rows nz c) = rw length-map g.1 in
      (g.0, l, pattern_at g.0 l ∙ ap (row rows) g.2 ∙ q)

module _ {n : ℕ} {starts rows : List ℕ} (nz : ℕ → Bool) (S : Starts n starts rows) (R : Sorted n starts rows) (c : ℕ) (h : c < n) where
  -- descendants lie below n
  pub pattern_inside : (i : ℕ) → i < length (pattern starts rows nz c) → get_or (pattern starts rows nz c) i 0 < n
  pattern_inside i l =
      let u = select_at (kept_below rows nz c) (start starts c) (start starts (c + 1)) i (S.rising c h) (rw length-map at l) in
      let b = u.below in
      let e = starts_end S (c + 1) (omega arith) in
      rw (pattern_at nz S c h i l) (R.inside _ (omega arith))

  -- and ascend
  pub pattern_rises : (j i : ℕ) → j < i → i < length (pattern starts rows nz c) → get_or (pattern starts rows nz c) j 0 < get_or (pattern starts rows nz c) i 0
  pattern_rises j i m l =
      let w : j < length (pattern starts rows nz c) = omega arith in
      let u = select_at (kept_below rows nz c) (start starts c) (start starts (c + 1)) i (S.rising c h) (rw length-map at l) in
      let v = select_at (kept_below rows nz c) (start starts c) (start starts (c + 1)) j (S.rising c h) (rw length-map at w) in
      rw (pattern_at nz S c h i l, pattern_at nz S c h j w) (rows_rise R c _ _ h v.from (u.rises j m) u.below)

  -- they are the rows below the diagonal that have a kept entry
  pub pattern-select : pattern starts rows nz c ≡ select (λ r. kept_pair starts rows nz r c) (c + 1) n
  pattern-select =
      rising_same (pattern starts rows nz c) (select test (c + 1) n)
      pattern_rises
      (λ j i m l. (at i l).rises j m)
      (λ i l. select_holds test (c + 1) n _ (next (pattern_above nz S c h i l)) (pattern_inside i l) (kept_pair-pattern nz S c h i l))
      (λ i l. kept_pair_below nz S c h _ (back (at i l).from) (at i l).passes)
    where
      next : {r : ℕ} → c < r → c + 1 ≤ r
      next l = omega arith

      back : {r : ℕ} → c + 1 ≤ r → c < r
      back l = omega arith

      test : ℕ → Bool
      test r = kept_pair starts rows nz r c

      at : (i : ℕ) → i < length (select test (c + 1) n) → Picked test (c + 1) n (select test (c + 1) n) i
      at i l = select_at test (c + 1) n i (omega arith) l

-- equal kept positions give equal patterns
pub pattern_cong : {n : ℕ} {starts rows starts' rows' : List ℕ} (nz nz' : ℕ → Bool)
    → Starts n starts rows → Sorted n starts rows → Starts n starts' rows' → Sorted n starts' rows'
    → (c : ℕ) → c < n → ((r : ℕ) → kept_pair starts rows nz r c ≡ kept_pair starts' rows' nz' r c) → pattern starts rows nz c ≡ pattern starts' rows' nz' c
pattern_cong {n} nz nz' S R S' R' c h same =
    pattern-select nz S R c h ∙ select_cong _ _ (c + 1) n (λ r lo hi. same r) ∙ sym (pattern-select nz' S' R' c h)

kept_one : (rows : List ℕ) (nz : ℕ → Bool) (c p : ℕ) → bit (kept rows nz c p) ≡ bit (kept_diagonal rows nz c p) + bit (kept_below rows nz c p)
kept_one rows nz c p = go (ltb c (row rows p)) (eqb (row rows p) c) (leb c (row rows p)) (row rows p) (nz p) refl refl refl
  where
    go : (a b d : Bool) (r : ℕ) (w : Bool) → ltb c r ≡ a → eqb r c ≡ b → leb c r ≡ d → bit (d && w) ≡ bit (b && w) + bit (a && w)
    go true true d r w x y z = absurd (omega (arith, ltb-true c r x, eqb-true r c y))
    go true false true r w x y z = omega arith
    go true false false r w x y z = absurd (omega (arith, ltb-true c r x, leb-false c r z))
    go false true true r w x y z = omega arith
    go false true false r w x y z = absurd (omega (arith, eqb-true r c y, leb-false c r z))
    go false false true r w x y z = absurd (eqb-false r c y (omega (arith, ltb-false c r x, leb-true c r z)))
    go false false false r w x y z = refl

-- a column keeps its diagonal and its descendants
pub kept_count-pattern : {starts rows : List ℕ} (nz : ℕ → Bool) (c : ℕ) → Diagonal starts rows nz c
    → kept_count starts rows nz c ≡ 1 + length (pattern starts rows nz c)
kept_count-pattern {starts} {rows} nz c D =
    let o = tally_once (kept_diagonal rows nz c) (start starts c) (start starts (c + 1)) D.place D.from D.below D.kept D.only in
    let s = tally-split (kept rows nz c) (kept_diagonal rows nz c) (kept_below rows nz c) (kept_one rows nz c) (start starts c) (start starts (c + 1)) in
    omega (arith, length-map (desc_places starts rows nz c) (row rows))

-- so the kept entries are n diagonals and the pattern
pub factor_pairs-pattern : {n : ℕ} {starts rows : List ℕ} (nz : ℕ → Bool) → ((c : ℕ) → c < n → Diagonal starts rows nz c)
    → factor_pairs starts rows nz n ≡ sum_to (λ c. 1 + length (pattern starts rows nz c)) n
unfolding factor_pairs
factor_pairs-pattern {n} {starts} {rows} nz D =
    sum_to_eq (kept_count starts rows nz) (λ c. 1 + length (pattern starts rows nz c)) n (λ c h. kept_count-pattern nz c (D c h))
