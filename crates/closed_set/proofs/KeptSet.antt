-- Laws of specs/KeptSet.antt.
use Rattle.std.specs.Prelude.{ℕ, ◌+◌, ◌≤◌, ◌<◌, ◌≡◌, refl, Bool, true, List, [], ◌∷◌, ◌++◌, map, leb, eqb}
use Rattle.std.proofs.Common.{arith, sym, ◌∙◌}
use Rattle.std.proofs.Math.Path.{ap}
use Rattle.std.proofs.Math.ListN.{length, get_or, length-map}
use borrow.Author.Tests.{leb-true, eqb-true, eq-eqb}
use Rattle.lists.specs.Test.{any_in_found, any_in-hit, and_left, and_right, and_both}
use Rattle.lists.specs.Sum.{sum_to_eq}
use Rattle.lists.specs.Select.{select, Picked, select_at, select_holds, select_none, select_yes, select_join, select_cong, get_d_mapped}
use Rattle.lists.specs.Rising.{rising_same}
use Rattle.lists.specs.Cells.{cell_count}
use Rattle.pairs.specs.Pair.{pair_total}
use Rattle.pairs.specs.ColumnOrder.{set_size}
use Rattle.pairs.proofs.ColumnOrder.{set_size_most}
use Rattle.columns.specs.Columns.{start, row}
use Rattle.columns.specs.Kept.{kept, kept_row, kept_pair, kept_count, factor_pairs, pattern}
use Rattle.columns.proofs.Pattern.{pattern-select}
use Rattle.columns.specs.Form.{pattern_pairs, pattern_pair}
use Rattle.columns.proofs.Form.{pattern_pair_diagonal, pattern_pair_below}
use Rattle.columns.specs.Factor.{Starts, Sorted}
use Rattle.columns.proofs.Factor.{starts_end, rows_rise}

-- the first number, if it passes
select_first : (test : ℕ → Bool) (s e : ℕ) → s < e → test s ≡ true → select test s e ≡ s ∷ select test (s + 1) e
select_first test s e h t =
    select_join test s (s + 1) e (omega arith) (omega arith)
    ∙ ap (λ (l : List ℕ). l ++ select test (s + 1) e) (select_yes test s s (omega arith) t ∙ ap (λ (l : List ℕ). l ++ (s ∷ [])) (select_none test s))

module _ {n : ℕ} {starts rows : List ℕ} (nz : ℕ → Bool) (S : Starts n starts rows) (R : Sorted n starts rows) where
  module _ (c : ℕ) (h : c < n) where
    abbrev test : ℕ → Bool
    test r = kept_pair starts rows nz r c

    abbrev places : List ℕ
    places = select (kept rows nz c) (start starts c) (start starts (c + 1))

    at : (i : ℕ) → i < length places → Picked (kept rows nz c) (start starts c) (start starts (c + 1)) places i
    at i l = select_at (kept rows nz c) (start starts c) (start starts (c + 1)) i (S.rising c h) l

    found : (i : ℕ) → i < length (select test c n) → Picked test c n (select test c n) i
    found i l = select_at test c n i (omega arith) l

    row_at : (i : ℕ) → i < length places → get_or (map (row rows) places) i 0 ≡ row rows (get_or places i 0)
    row_at i l = get_d_mapped (row rows) places i 0 0 l

    rises : (j i : ℕ) → j < i → i < length (map (row rows) places) → get_or (map (row rows) places) j 0 < get_or (map (row rows) places) i 0
    rises j i m l =
        let k : i < length places = rw length-map at l in
        rw (row_at i k, row_at j (omega arith)) (rows_rise R c _ _ h (at j (omega arith)).from ((at i k).rises j m) (at i k).below)

    there : (i : ℕ) → i < length (map (row rows) places)
        → (k : ℕ) × (k < length (select test c n)) × (get_or (select test c n) k 0 ≡ get_or (map (row rows) places) i 0)
    unfolding kept_pair
    there i l =
        let m : i < length places = rw length-map at l in
        let u = at i m in
        let p = get_or places i 0 in
        let e = starts_end S (c + 1) (omega arith) in
        let b = u.below in
        rw (row_at i m)
        (select_holds test c n (row rows p) (leb-true _ _ (and_left (leb c (row rows p)) (nz p) u.passes)) (R.inside p (omega arith))
        (any_in-hit (kept_row rows nz (row rows p) c) (start starts c) (start starts (c + 1)) p u.from u.below
        (and_both (eqb (row rows p) (row rows p)) (kept rows nz c p) (eq-eqb (row rows p) _ refl) u.passes)))

    back : (i : ℕ) → i < length (select test c n)
        → (k : ℕ) × (k < length (map (row rows) places)) × (get_or (map (row rows) places) k 0 ≡ get_or (select test c n) i 0)
    unfolding kept_pair
    back i l =
        let r = get_or (select test c n) i 0 in
        let f = any_in_found (kept_row rows nz r c) (start starts c) (start starts (c + 1)) (found i l).passes in
        let p = f.0 in
        let k = and_right (eqb (row rows p) r) (kept rows nz c p) f.3 in
        let g = select_holds (kept rows nz c) (start starts c) (start starts (c + 1)) p f.1 f.2 k in
        (g.0, rw length-map g.1, row_at g.0 g.1 ∙ ap (row rows) g.2 ∙ eqb-true _ _ (and_left (eqb (row rows p) r) (kept rows nz c p) f.3))

    kept_column : kept_count starts rows nz c ≡ length (select test c n)
    kept_column =
        sym (length-map places (row rows))
        ∙ ap length (rising_same (map (row rows) places) (select test c n) rises (λ j i m l. (found i l).rises j m) there back)

  -- kept entries are as many as their pairs
  pub factor_pairs_size : factor_pairs starts rows nz n ≡ set_size n (kept_pair starts rows nz)
  unfolding factor_pairs cell_count
  factor_pairs_size = sum_to_eq _ _ n (λ c l. kept_column c l)

  pub factor_pairs_most : factor_pairs starts rows nz n ≤ pair_total n
  factor_pairs_most = rw factor_pairs_size (set_size_most n (kept_pair starts rows nz))

  -- the rows of a column of the pattern are its own and its descendants'
  pub pattern_pair_column : (c : ℕ) → c < n → select (λ r. pattern_pair starts rows nz r c) c n ≡ c ∷ pattern starts rows nz c
  pattern_pair_column c h =
      select_first (λ r. pattern_pair starts rows nz r c) c n h (pattern_pair_diagonal starts rows nz c)
      ∙ ap (λ (l : List ℕ). c ∷ l)
      (select_cong _ _ (c + 1) n (λ r lo hi. pattern_pair_below starts rows nz r c (omega arith)) ∙ sym (pattern-select nz S R c h))

  -- so its pairs are as many as its columns and their descendants
  pub pattern_pairs_size : pattern_pairs n (pattern starts rows nz) ≡ set_size n (pattern_pair starts rows nz)
  unfolding pattern_pairs cell_count
  pattern_pairs_size = sum_to_eq _ _ n (λ c h. omega (arith, ap length (pattern_pair_column c h)))

  pub pattern_pairs_most : pattern_pairs n (pattern starts rows nz) ≤ pair_total n
  pattern_pairs_most = rw pattern_pairs_size (set_size_most n (pattern_pair starts rows nz))
