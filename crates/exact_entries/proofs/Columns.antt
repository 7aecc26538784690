-- A factor's descendants as lists of entries: their rows ascend, and a closed set of pairs is closed for the recurrence.
-- Assumes nothing.
use Rattle.std.specs.Prelude.{ℕ, suc, ◌≤◌, ◌<◌, max, min, ◌≡◌, Bool, true, List, [], ◌∷◌, map, ℤ, length, get_or, Float}
use Rattle.std.proofs.Common.{arith, le_refl, subst, subst₂}
use Rattle.std.proofs.lemmas.List.{length-map}
use Rattle.columns.specs.Columns.{row}
use Rattle.columns.specs.Kept.{desc_places, pattern}
use Rattle.columns.specs.Factor.{Factor}
use Rattle.entries.proofs.Descendants.{place_row}
use Rattle.closed_set.specs.ClosedSet.{Needed, dependency, Pattern, Ranged, descends}
use Rattle.closed_set.proofs.ClosedSet.{needed_range, descends_at}
use Rattle.takahashi.specs.Entries.{Entry, Each, Ascend}
use Rattle.takahashi.proofs.Entries.{each_map, ascend_rows}
use Rattle.takahashi.specs.Recurrence.{RecurrenceClosed}
use Rattle.exact.specs.Exact.{Alike}

-- ---- lists of entries made from places
module _ {W : Type 0} (f : ℕ → Entry W) where
  each_places : (Q : ℕ → Type 0) (l : List ℕ) → ((i : ℕ) → i < length l → Q (f (get_or l i 0)).row) → Each Q (map f l)
  each_places Q [] h = tt
  each_places Q (p ∷ l) h = (h 0 (omega arith), each_places Q l (λ i m. h (suc i) (omega arith)))

-- ---- lists of the same rows
pub alike_ascend : (s n a : ℕ) (ps : List (Entry Float)) (qs : List (Entry ℤ)) → Alike s ps qs → Ascend n a ps → Ascend n a qs
alike_ascend s n a [] (q ∷ qs) e h = elim e [ ]
alike_ascend s n a (p ∷ ps) [] e h = elim e [ ]
alike_ascend s n a [] [] e h = tt
alike_ascend s n a (p ∷ ps) (q ∷ qs) e h = (
  subst (λ (r : ℕ). a ≤ r) e.0 h.0,
  subst (λ (r : ℕ). r < n) e.0 h.1,
  alike_ascend s n (suc q.row) ps qs e.2 (subst (λ (r : ℕ). Ascend n (suc r) ps) e.0 h.2),
)

pub alike_each : (s : ℕ) (Q : ℕ → Type 0) (ps : List (Entry Float)) (qs : List (Entry ℤ)) → Alike s ps qs → Each Q ps → Each Q qs
alike_each s Q [] (q ∷ qs) e h = elim e [ ]
alike_each s Q (p ∷ ps) [] e h = elim e [ ]
alike_each s Q [] [] e h = tt
alike_each s Q (p ∷ ps) (q ∷ qs) e h = (subst Q e.0 h.0, alike_each s Q ps qs e.2 h.1)

-- ---- the descendants of a column as entries of any kind, each with its row, are the pattern's
module _ {W : Type 0} (f : ℕ → Entry W) {n : ℕ} {starts rows : List ℕ} {values : ℕ} (nz : ℕ → Bool) (F : Factor n starts rows values)
    (rowed : (p : ℕ) → (f p).row ≡ row rows p) (j : ℕ) (h : j < n) where
  pub places_descend : Each (λ k. descends (pattern starts rows nz) j k ≡ true) (map f (desc_places starts rows nz j))
  places_descend =
      each_places f (λ k. descends (pattern starts rows nz) j k ≡ true) (desc_places starts rows nz j)
      (λ i l.
      subst (λ (k : ℕ). descends (pattern starts rows nz) j k ≡ true) (place_row f nz F rowed j h i l)
      (descends_at (pattern starts rows nz) j i (rw length-map l)))

-- ---- the closed set is closed for the recurrence over entries of the same rows
module _ (n : ℕ) (pat : ℕ → List ℕ) (req : ℕ → ℕ → Bool) (P : Pattern n pat) (R : Ranged n req) {W : Type 0} (es : ℕ → List (Entry W))
    (ascend : (j : ℕ) → j < n → Ascend n (suc j) (es j)) (same : (j : ℕ) → j < n → Each (λ k. descends pat j k ≡ true) (es j)) where
  column_in : (i j : ℕ) → Needed pat req i j → j < n
  column_in i j p = let g = needed_range pat req n P R p in omega arith

  pub needed_closed : RecurrenceClosed n es (Needed pat req)
  needed_closed = record {
    inside = λ i j p. needed_range pat req n P R p;
    rows = λ i j p. ascend_rows n j (suc j) (es j) (le_refl (suc j)) (ascend j (column_in i j p));
    below = λ i j p ji.
        let jn = column_in i j p in
        each_map n j (λ k. descends pat j k ≡ true) (λ k. Needed pat req (max i k) (min i k)) (es j) (λ k jk kn d. dependency k p d)
        (ascend_rows n j (suc j) (es j) (le_refl (suc j)) (ascend j jn)) (same j jn);
    diagonal = λ j p.
        let jn = column_in j j p in
        each_map n j (λ k. descends pat j k ≡ true) (λ k. Needed pat req k j) (es j)
        (λ k jk kn d. subst₂ (λ (a b : ℕ). Needed pat req a b) (omega arith) (omega arith) (dependency k p d))
        (ascend_rows n j (suc j) (es j) (le_refl (suc j)) (ascend j jn)) (same j jn);
  }
