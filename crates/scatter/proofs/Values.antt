-- The value list, filled column by column from the last, and the whole of it at the end. Assumes nothing.
use Rattle.std.specs.Prelude.{◌≡◌, refl}
use Rattle.std.proofs.Math.Path.{sym, ap, ap₂}
use Rattle.std.proofs.Common.{◌∙◌, subst, inl, inr, eq-or-lt_of_le, le_refl, le_of_lt, le_of_suc-le-suc, not-le_of_lt, add-one, arith, length-drop, take-append-drop, ext_get_or, get_or-take, get_or-drop}
use mathlib.Core.List.{List, ◌++◌}
use Prim.Native.Nat.{ℕ, zero, suc, ◌+◌, ◌-◌, ◌≤◌, ◌<◌, zero-le}
use Rattle.std.proofs.Math.ListN.{length, get_or, take, drop}
use Rattle.std.proofs.lemmas.List.{length-map}
use Rattle.std.proofs.Math.Seq.{take-add, length-take-le}
use Rattle.lists.specs.Select.{get_d_mapped}
use Rattle.lists.specs.Overwrite.{overwrite, splice, splice-length, splice_at, splice_past, splice_later}
use Rattle.takahashi.specs.Recurrence.{Entry}
use Rattle.scatter.specs.Scatter.{blank, Laid, Filled, column_values, columns_values}
use Rattle.scatter.specs.ClosedPattern.{cell}
use Rattle.scatter.proofs.ClosedPattern.{cell_is, starts_le, next_le}

-- ---- a list written anew from a place on
-- k places from a on, lent and written
pub splice_lent : {W : Type 0} (a k : ℕ) (new old : List W) → length new ≡ k → take a old ++ (new ++ drop k (drop a old)) ≡ splice a new old
unfolding splice overwrite
splice_lent a k new old e = ap (λ (i : ℕ). take a old ++ (new ++ drop i (drop a old))) (sym e)

-- ---- columns
module _ {W : Type 0} (none : W) (n : ℕ) (desc : ℕ → List (Entry W)) (starts rows : List ℕ) (L : Laid none n desc starts rows)
    (Z : ℕ → ℕ → W) (old : List W) (room : get_or starts n 0 ≤ length old) where
  pub column_values-length : (c : ℕ) → length (column_values Z desc c) ≡ suc (length (desc c))
  column_values-length c = ap suc (length-map (desc c) (λ (e : Entry W). Z e.row c))

  column_of_at : (c x : ℕ) → x < suc (length (desc c)) → get_or (column_values Z desc c) x none ≡ Z (cell none desc c x) c
  column_of_at c zero h = refl
  column_of_at c (suc p) h = get_d_mapped (λ (e : Entry W). Z e.row c) (desc c) p (blank none) none (le_of_suc-le-suc h)

  -- where a column ends
  ends : (c : ℕ) → c < n → get_or starts c 0 + length (column_values Z desc c) ≡ get_or starts (c + 1) 0
  ends c cn = ap (λ (x : ℕ). get_or starts c 0 + x) (column_values-length c) ∙ sym (L.next c cn)

  pub columns_none : Filled none n desc starts rows Z old n old
  columns_none = record { long = refl; known = record { value = λ c x h cn. absurd (not-le_of_lt cn h) }; after = refl }

  -- one column more
  pub columns_next : (j : ℕ) (v : List W) → j < n → Filled none n desc starts rows Z old (j + 1) v
      → Filled none n desc starts rows Z old j (splice (get_or starts j 0) (column_values Z desc j) v)
  columns_next j v jn F = record {
    long = splice-length a new v fit ∙ F.long;
    known = record {
      value = λ c x h cn xl. elim (eq-or-lt_of_le h) [
        | inl q ↦
            subst (λ (i : ℕ). x < suc (length (desc i)) → get_or (splice a new v) (get_or starts i 0 + x) none ≡ Z (get_or rows (get_or starts i 0 + x) 0) i) q
            (own x) xl
        | inr l ↦
            let m : j + 1 ≤ c = subst (λ (i : ℕ). i ≤ c) (sym (add-one j)) l in
            let s : get_or starts (j + 1) 0 ≤ get_or starts c 0 = starts_le none n desc starts rows L (j + 1) c m (le_of_lt cn) in
            splice_past a new v fit none (get_or starts c 0 + x) (omega (arith, ends j jn)) ∙ F.known.value c x m cn xl
      ];
    };
    after = splice_later a new v fit none (get_or starts n 0) (omega (arith, ends j jn, next_le none n desc starts rows L j jn)) ∙ F.after;
  }
    where
      a : ℕ
      a = get_or starts j 0

      new : List W
      new = column_values Z desc j

      fit : a + length new ≤ length v
      fit = omega (arith, ends j jn, next_le none n desc starts rows L j jn, room, F.long)

      own : (x : ℕ) → x < suc (length (desc j)) → get_or (splice a new v) (a + x) none ≡ Z (get_or rows (get_or starts j 0 + x) 0) j
      own x xl =
          splice_at a new v fit none x (subst (λ (i : ℕ). x < i) (sym (column_values-length j)) xl)
          ∙ column_of_at j x xl ∙ ap (λ (i : ℕ). Z i j) (sym (cell_is none n desc starts rows L j x jn xl))

  -- ---- all columns
  module _ (v : List W) (F : Filled none n desc starts rows Z old 0 v) where
    column_there : (c : ℕ) → c < n → take (suc (length (desc c))) (drop (get_or starts c 0) v) ≡ column_values Z desc c
    column_there c cn =
        ext_get_or none (take (suc (length (desc c))) (drop (get_or starts c 0) v)) (column_values Z desc c) (wide ∙ sym (column_values-length c))
        (λ x h.
        let xl : x < suc (length (desc c)) = subst (λ (i : ℕ). x < i) wide h in
        get_or-take (suc (length (desc c))) (drop (get_or starts c 0) v) x none xl ∙ get_or-drop (get_or starts c 0) v x none
        ∙ F.known.value c x zero-le cn xl ∙ ap (λ (i : ℕ). Z i c) (cell_is none n desc starts rows L c x cn xl) ∙ sym (column_of_at c x xl))
      where
        wide : length (take (suc (length (desc c))) (drop (get_or starts c 0) v)) ≡ suc (length (desc c))
        wide =
            length-take-le (suc (length (desc c))) (drop (get_or starts c 0) v)
            (omega (arith, length-drop (get_or starts c 0) v, L.next c cn, next_le none n desc starts rows L c cn, room, F.long))

    columns_there : (k : ℕ) → k ≤ n → take (get_or starts k 0) v ≡ columns_values Z desc k
    unfolding columns_values
    columns_there zero h = ap (λ (i : ℕ). take i v) L.start
    columns_there (suc k) h =
        ap (λ (i : ℕ). take i v) (ap (λ (i : ℕ). get_or starts i 0) (sym (add-one k)) ∙ L.next k h)
        ∙ take-add (get_or starts k 0) (suc (length (desc k))) v
        ∙ ap₂ (λ (x y : List W). x ++ y) (columns_there k (le_of_lt h)) (column_there k h)

    pub filled_end : v ≡ overwrite (columns_values Z desc n) old
    unfolding overwrite
    filled_end =
        sym (take-append-drop (get_or starts n 0) v)
        ∙ ap₂ (λ (x y : List W). x ++ y) (columns_there n (le_refl n)) (F.after ∙ ap (λ (i : ℕ). drop i old) (sym wide))
      where
        wide : length (columns_values Z desc n) ≡ get_or starts n 0
        wide = ap length (sym (columns_there n (le_refl n))) ∙ length-take-le (get_or starts n 0) v (omega (arith, room, F.long))
