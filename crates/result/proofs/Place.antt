-- Laws of specs/Place.antt.
use Rattle.std.specs.Prelude.{ℕ, ◌+◌, ◌-◌, ◌≤◌, ◌<◌, ◌≡◌, refl, Bool, true, false, length, take, drop}
use Rattle.std.proofs.Common.{arith, zero-add, eq-or-lt_of_le, le_refl, sym, subst, ◌∙◌, ⊎_elim, length-drop, take_all, length-take-le, get_or-take, get_or-drop, eq-eqb, eqb-true}
use Rattle.std.proofs.Math.Decide.{dec_lt}
use Rattle.std.proofs.Math.Path.{ap}
use Rattle.std.proofs.Math.Bool.{not}
use Rattle.std.proofs.lemmas.Bool.{false≢true}
use mathlib.Core.List.{List, []}
use Rattle.lists.specs.Test.{any_in_none, any_in-hit, any_in_found, not_so}
use Rattle.lists.specs.Place.{place_from_at}
use Rattle.refusal.specs.Steps.{Reply, refused, answered}
use Rattle.refusal.proofs.Steps.{first_hit, first_skip, first_end}
use Rattle.columns.specs.Columns.{row}
use Rattle.columns.specs.Factor.{Ascends}
use Rattle.result.specs.Place.{is_row, holds, place_in, shifted, sought, Ascending, Stands}

-- ---- between two ends
module _ (rows : List ℕ) (r s e : ℕ) where
  pub place_in_absent : holds rows r s e ≡ false → place_in rows r s e ≡ refused 8
  unfolding place_in
  place_in_absent h = first_hit 8 [] _ (ap not h)

  pub place_in_first : (p : ℕ) → Stands rows r s e p → ((q : ℕ) → s ≤ q → q < p → row rows q ≡ r → ⊥) → place_in rows r s e ≡ answered p
  unfolding place_in
  place_in_first p S none =
      let lo : s ≤ p = S.from in
      let hi : p < e = S.below in
      first_skip 8 [] _ (ap not (any_in-hit (is_row rows r) s e p lo hi (eq-eqb _ _ S.there)))
      (first_end _ ∙ ap answered (place_from_at rows r s (e - s) p lo (omega arith) S.there none))

  -- a row that is held stands somewhere
  pub holds_stands : holds rows r s e ≡ true → (p : ℕ) × Stands rows r s e p
  holds_stands h =
      let f = any_in_found (is_row rows r) s e h in
      (f.0, record { from = f.1; below = f.2; there = eqb-true _ _ f.3 })

  pub stands_holds : (p : ℕ) → Stands rows r s e p → holds rows r s e ≡ true
  stands_holds p S = any_in-hit (is_row rows r) s e p S.from S.below (eq-eqb _ _ S.there)

  -- in ascending rows
  module _ (A : Ascends rows s e) where
    pub place_in_at : (p : ℕ) → Stands rows r s e p → place_in rows r s e ≡ answered p
    place_in_at p S = place_in_first p S (λ q lo l h. let a = A q p lo l S.below in omega (arith, S.there))

    -- a place that is found is one where r stands
    pub place_in_stands : (p : ℕ) → place_in rows r s e ≡ answered p → Stands rows r s e p
    place_in_stands p q = go (holds rows r s e) refl
      where
        go : (b : Bool) → holds rows r s e ≡ b → Stands rows r s e p
        go true h =
            let f = holds_stands h in
            let m : f.0 ≡ p = let w : answered f.0 ≡ answered p = sym (place_in_at f.0 f.1) ∙ q in cc in
            subst (λ (k : ℕ). Stands rows r s e k) m f.1
        go false h =
            let w : answered p ≡ refused 8 = sym q ∙ place_in_absent h in
            let z : ◌≡◌ {A = ℕ} 0 1 = cc in
            absurd (omega arith)

-- ---- in a part
shifted_zero : (x : Reply ℕ) → shifted 0 x ≡ x
shifted_zero (refused k) = refl
shifted_zero (answered p) = ap answered (zero-add p)

-- two stretches of rows that hold r at the same place
same : (r : ℕ) (xs : List ℕ) (a b s e : ℕ) (ys : List ℕ) (s' e' : ℕ) → Ascends xs s e → Ascends ys s' e'
    → ((p : ℕ) → Stands xs r s e p → (q : ℕ) × Stands ys r s' e' q × (a + p ≡ b + q))
    → ((q : ℕ) → Stands ys r s' e' q → (p : ℕ) × Stands xs r s e p)
    → shifted a (place_in xs r s e) ≡ shifted b (place_in ys r s' e')
same r xs a b s e ys s' e' A B there back = go (holds xs r s e) refl
  where
    go : (t : Bool) → holds xs r s e ≡ t → shifted a (place_in xs r s e) ≡ shifted b (place_in ys r s' e')
    go true h =
        let f = holds_stands xs r s e h in
        let g = there f.0 f.1 in
        ap (shifted a) (place_in_at xs r s e A f.0 f.1) ∙ ap answered g.2 ∙ ap (shifted b) (sym (place_in_at ys r s' e' B g.0 g.1))
    go false h =
        let none : holds ys r s' e' ≡ false =
        not_so _ (λ k.
        let f = holds_stands ys r s' e' k in
        let g = back f.0 f.1 in
        false≢true (sym h ∙ stands_holds xs r s e g.0 g.1)) in
        ap (shifted a) (place_in_absent xs r s e h) ∙ ap (shifted b) (sym (place_in_absent ys r s' e' none))

-- the front of an ascending part ascends, and so does its rest
pub ascending-take : (m : ℕ) (xs : List ℕ) → m ≤ length xs → Ascending xs → Ascending (take m xs)
ascending-take m xs h A q p lo l hi =
    let e : length (take m xs) ≡ m = length-take-le m xs h in
    let a : p < m = omega arith in
    let b : q < m = omega arith in
    rw (get_or-take m xs q 0 b, get_or-take m xs p 0 a) (A q p lo l (omega arith))

pub ascending-drop : (a : ℕ) (xs : List ℕ) → Ascending xs → Ascending (drop a xs)
ascending-drop a xs A q p lo l hi =
    let e : length (drop a xs) ≡ length xs - a = length-drop a xs in
    rw (get_or-drop a xs q 0, get_or-drop a xs p 0) (A (a + q) (a + p) (omega arith) (omega arith) (omega arith))

-- `&rows[s..]` is the rest
pub part_rest : (s : ℕ) (xs : List ℕ) → take (length xs - s) (drop s xs) ≡ drop s xs
part_rest s xs = take_all (length xs - s) (drop s xs) (simp length-drop (le_refl _))

pub sought_none : (b : ℕ) (xs : List ℕ) (r : ℕ) → length xs ≡ 0 → sought b xs r ≡ refused 8
sought_none b xs r h =
    ap (shifted b) (place_in_absent xs r 0 (length xs) (subst (λ (n : ℕ). holds xs r 0 n ≡ false) (sym h) (any_in_none (is_row xs r) 0)))

module _ (b : ℕ) (xs : List ℕ) (r m : ℕ) (A : Ascending xs) (l : m < length xs) where
  -- the row looked at is the one sought
  pub sought_here : row xs m ≡ r → sought b xs r ≡ answered (b + m)
  sought_here h = ap (shifted b) (place_in_at xs r 0 (length xs) A m (record { from = omega arith; below = l; there = h }))

  -- it is above: the search goes on below it
  pub sought_below : r < row xs m → sought b xs r ≡ sought b (take m xs) r
  sought_below h =
      let n : length (take m xs) ≡ m = length-take-le m xs (omega arith) in
      same r xs b b 0 (length xs) (take m xs) 0 (length (take m xs)) A (ascending-take m xs (omega arith) A)
      (λ p S.
      let k : p < m = before p S in
      (p, record { from = omega arith; below = omega arith; there = get_or-take m xs p 0 k ∙ S.there }, refl))
      (λ p S.
      let k : p < m = let w : p < length (take m xs) = S.below in omega arith in
      (p, record { from = omega arith; below = omega arith; there = sym (get_or-take m xs p 0 k) ∙ S.there }))
    where
      before : (p : ℕ) → Stands xs r 0 (length xs) p → p < m
      before p S = elim (dec_lt p m) [
        | yes a ↦ a
        | no a ↦
            absurd
            (⊎_elim
            (λ (q : m ≡ p). omega (arith, S.there, ap (row xs) q))
            (λ q. omega (arith, S.there, A m p (omega arith) q S.below))
            (eq-or-lt_of_le (let z : m ≤ p = omega arith in z)))
      ]

  -- it is below: the search goes on above it
  pub sought_above : row xs m < r → sought b xs r ≡ sought (b + (m + 1)) (drop (m + 1) xs) r
  sought_above h =
      let n : length (drop (m + 1) xs) ≡ length xs - (m + 1) = length-drop (m + 1) xs in
      same r xs b (b + (m + 1)) 0 (length xs) (drop (m + 1) xs) 0 (length (drop (m + 1) xs)) A (ascending-drop (m + 1) xs A)
      (λ p S.
      let k : m < p = behind p S in
      let d : p < length xs = S.below in
      let q : (m + 1) + (p - (m + 1)) ≡ p = omega arith in (
        p - (m + 1),
        record { from = omega arith; below = omega arith; there = get_or-drop (m + 1) xs (p - (m + 1)) 0 ∙ ap (row xs) q ∙ S.there },
        omega arith,
      ))
      (λ p S.
      let d : p < length (drop (m + 1) xs) = S.below in
      ((m + 1) + p, record { from = omega arith; below = omega arith; there = sym (get_or-drop (m + 1) xs p 0) ∙ S.there }))
    where
      behind : (p : ℕ) → Stands xs r 0 (length xs) p → m < p
      behind p S = elim (dec_lt m p) [
        | yes a ↦ a
        | no a ↦
            absurd
            (⊎_elim
            (λ (q : p ≡ m). omega (arith, S.there, ap (row xs) q))
            (λ q. omega (arith, S.there, A p m (omega arith) q l))
            (eq-or-lt_of_le (let z : p ≤ m = omega arith in z)))
      ]

-- ---- a column's rows as a part of all
module _ (rows : List ℕ) (s e : ℕ) (h : s ≤ e) (l : e ≤ length rows) where
  part_length : length (take (e - s) (drop s rows)) ≡ e - s
  part_length = length-take-le (e - s) (drop s rows) (simp length-drop (omega arith))

  part_at : (p : ℕ) → p < e - s → row (take (e - s) (drop s rows)) p ≡ row rows (s + p)
  part_at p k = get_or-take (e - s) (drop s rows) p 0 k ∙ get_or-drop s rows p 0

  pub ascends_part : Ascends rows s e → Ascending (take (e - s) (drop s rows))
  ascends_part A q p lo k hi =
      let n = part_length in
      omega (arith, part_at q (omega arith), part_at p (omega arith), A (s + q) (s + p) (omega arith) (omega arith) (omega arith))

  -- the search in the part finds the place in all
  pub sought-part : (r : ℕ) → Ascends rows s e → sought s (take (e - s) (drop s rows)) r ≡ place_in rows r s e
  sought-part r A =
      let n = part_length in
      let xs = take (e - s) (drop s rows) in
      same r xs s 0 0 (length xs) rows s e (ascends_part A) A
      (λ p S.
      let d : p < length xs = S.below in
      (s + p, record { from = omega arith; below = omega arith; there = sym (part_at p (omega arith)) ∙ S.there }, omega arith))
      (λ p S.
      let a : s ≤ p = S.from in
      let d : p < e = S.below in
      let q : s + (p - s) ≡ p = omega arith in
      (p - s, record { from = omega arith; below = omega arith; there = part_at (p - s) (omega arith) ∙ ap (row rows) q ∙ S.there }))
      ∙ shifted_zero (place_in rows r s e)
