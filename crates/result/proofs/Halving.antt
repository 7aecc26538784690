-- Laws of specs/Halving.antt.
use Prim.Native.Nat.{ℕ, zero, suc, ◌+◌, ◌-◌, ◌/◌, ◌≤◌, ◌<◌, max, min}
use native.Mathlib.Omega.{arith}
use Rattle.std.proofs.Common.{le_refl, sym, subst, ◌∙◌}
use Rattle.std.proofs.Math.Decide.{dec_lt}
use Rattle.std.specs.Prelude.{◌≡◌, Bool, List, eqb, length}
use Rattle.std.proofs.Math.Path.{refl, ap}
use Rattle.std.proofs.Math.Bool.{true, false, cond}
use Rattle.std.proofs.lemmas.Bool.{false≢true}
use Rattle.std.proofs.Math.Dec.{leb}
use borrow.Author.Tests.{eq-eqb, ne_eqb, lt-ltb, le-ltb, lt-leb, le-leb, eqb-true, eqb-false}
use Rattle.lists.specs.Test.{not_so}
use Rattle.refusal.specs.Steps.{refused, answered}
use Rattle.columns.specs.Columns.{start, row}
use Rattle.columns.specs.Factor.{Ascends}
use Rattle.result.specs.Place.{is_row, place_in, Stands, holds}
use Rattle.result.proofs.Place.{place_in_at, place_in_absent, holds_stands, stands_holds}
use Rattle.result.specs.Lookup.{dimension, lookup_place, value_at, lookup_of, WellFormed}
use Rattle.result.proofs.Laws.{refused-answered, lookup_place_column, lookup_place-outside, lookup_place_lem}
use Rattle.result.specs.Halving.{halving_in, halving, candidate, standing, halved_place, column_within, place_within, lookup_place_within, lookup_within_of}

answered_same : {p q : ℕ} → answered p ≡ answered q → p ≡ q
answered_same e = cc

-- ---- halving
module _ (rows : List ℕ) (r : ℕ) where
  -- once it can halve often enough, more change nothing
  halving_in_enough : (j k base size : ℕ) → size ≤ j → size ≤ k → halving_in j rows r base size ≡ halving_in k rows r base size
  unfolding halving_in
  halving_in_enough zero zero base size h l = refl
  halving_in_enough zero (suc k) base size h l = let q : leb size 1 ≡ true = le-leb size 1 (omega arith) in rw q refl
  halving_in_enough (suc j) zero base size h l = let q : leb size 1 ≡ true = le-leb size 1 (omega arith) in rw q refl
  halving_in_enough (suc j) (suc k) base size h l = elim (dec_lt 1 size) [
    | yes a ↦ ap (cond (leb size 1) base) (halving_in_enough j k _ (size - size / 2) (omega arith) (omega arith))
    | no a ↦ let q : leb size 1 ≡ true = le-leb size 1 (omega arith) in rw q refl
  ]

  pub halving_one : (base size : ℕ) → size ≤ 1 → halving rows r base size ≡ base
  unfolding halving_in
  halving_one base zero h = refl
  halving_one base (suc k) h = let q : leb (suc k) 1 ≡ true = le-leb (suc k) 1 h in rw q refl

  halving_next : (base size : ℕ) → 1 < size
      → halving rows r base size ≡ halving rows r (cond (leb (row rows (base + size / 2)) r) (base + size / 2) base) (size - size / 2)
  unfolding halving_in
  halving_next base zero h = absurd (omega arith)
  halving_next base (suc k) h =
      let q : leb (suc k) 1 ≡ false = lt-leb (suc k) 1 h in
      rw q (halving_in_enough k (suc k - suc k / 2) _ (suc k - suc k / 2) (omega arith) (le_refl _))

  pub halving_up : (base size : ℕ) → 1 < size → row rows (base + size / 2) ≤ r → halving rows r base size ≡ halving rows r (base + size / 2) (size - size / 2)
  halving_up base size h l =
      halving_next base size h ∙ ap (λ (b : Bool). halving rows r (cond b (base + size / 2) base) (size - size / 2)) (le-leb (row rows (base + size / 2)) r l)

  pub halving-down : (base size : ℕ) → 1 < size → r < row rows (base + size / 2) → halving rows r base size ≡ halving rows r base (size - size / 2)
  halving-down base size h l =
      halving_next base size h ∙ ap (λ (b : Bool). halving rows r (cond b (base + size / 2) base) (size - size / 2)) (lt-leb (row rows (base + size / 2)) r l)

  -- it ends among its places
  halving_in_inside : (k base size : ℕ) → 0 < size → (base ≤ halving_in k rows r base size) × (halving_in k rows r base size < base + size)
  unfolding halving_in
  halving_in_inside zero base size h = (le_refl base, omega arith)
  halving_in_inside (suc k) base size h = elim (dec_lt 1 size) [
    | yes a ↦
        let q : leb size 1 ≡ false = lt-leb size 1 a in
        rw q (of (leb (row rows (base + size / 2)) r) (halving_in_inside k (base + size / 2) (size - size / 2) (omega arith)) (halving_in_inside k base (size - size / 2) (omega arith)))
    | no a ↦ let q : leb size 1 ≡ true = le-leb size 1 (omega arith) in rw q (le_refl base, omega arith)
  ]
    where
      Among : ℕ → ℕ → Type 0
      Among b m = (b ≤ halving_in k rows r b m) × (halving_in k rows r b m < b + m)

      of : (b : Bool) → Among (base + size / 2) (size - size / 2) → Among base (size - size / 2)
          → (base ≤ halving_in k rows r (cond b (base + size / 2) base) (size - size / 2)) × (halving_in k rows r (cond b (base + size / 2) base) (size - size / 2) < base + size)
      of true i j = (omega (arith, i.0), omega (arith, i.1))
      of false i j = (omega (arith, j.0), omega (arith, j.1))

  pub halving_inside : (base size : ℕ) → 0 < size → (base ≤ halving rows r base size) × (halving rows r base size < base + size)
  halving_inside base size h = halving_in_inside size base size h

  -- in ascending rows it ends where r stands
  halving_in-finds : (k base size p : ℕ) → size ≤ k → Ascends rows base (base + size) → Stands rows r base (base + size) p → halving_in k rows r base size ≡ p
  unfolding halving_in
  halving_in-finds zero base size p h A S = absurd (omega (arith, S.from, S.below))
  halving_in-finds (suc k) base size p h A S = elim (dec_lt 1 size) [
    | yes a ↦
        let q : leb size 1 ≡ false = lt-leb size 1 a in
        rw q (elim (dec_lt r (row rows (base + size / 2))) [
          | yes l ↦
              let d = lower a l in
              let u : leb (row rows (base + size / 2)) r ≡ false = lt-leb _ _ l in
              rw u
              (halving_in-finds k base (size - size / 2) p (omega arith) (λ x y lo w hi. A x y lo w (omega arith))
              (record { from = S.from; below = omega arith; there = S.there }))
          | no l ↦
              let d = upper a (omega arith) in
              let u : leb (row rows (base + size / 2)) r ≡ true = le-leb (row rows (base + size / 2)) r (omega arith) in
              let m : base + size / 2 + (size - size / 2) ≡ base + size = omega arith in
              rw u
              (halving_in-finds k (base + size / 2) (size - size / 2) p (omega arith) (λ x y lo w hi. A x y (omega arith) w (omega (arith, m, hi)))
              (record { from = d; below = omega (arith, m, S.below); there = S.there }))
        ])
    | no a ↦ let q : leb size 1 ≡ true = le-leb size 1 (omega arith) in rw q (omega (arith, S.from, S.below))
  ]
    where
      lower : 1 < size → r < row rows (base + size / 2) → p < base + size / 2
      lower a l = elim (dec_lt p (base + size / 2)) [
        | yes b ↦ b
        | no b ↦ elim (dec_lt (base + size / 2) p) [
          | yes d ↦ absurd (omega (arith, A (base + size / 2) p (omega arith) d S.below, S.there, l))
          | no d ↦ let e : p ≡ base + size / 2 = omega arith in absurd (omega (arith, ap (row rows) e, S.there, l))
        ]
      ]

      upper : 1 < size → row rows (base + size / 2) ≤ r → base + size / 2 ≤ p
      upper a l = elim (dec_lt p (base + size / 2)) [
        | yes b ↦ absurd (omega (arith, A p (base + size / 2) S.from b (omega arith), S.there, l))
        | no b ↦ omega arith
      ]

  -- ---- a place where r may stand
  standing_place : (p q : ℕ) → standing rows r p ≡ answered q → p ≡ q
  unfolding standing
  standing_place p q = of (is_row rows r p)
    where
      of : (b : Bool) → cond b (answered p) (refused 8) ≡ answered q → p ≡ q
      of true e = answered_same e
      of false e = absurd (refused-answered e)

  pub standing_here : (p : ℕ) → row rows p ≡ r → standing rows r p ≡ answered p
  unfolding standing
  standing_here p e = rw (eq-eqb (row rows p) r e) refl

  pub standing_none : (p : ℕ) → (row rows p ≡ r → ⊥) → standing rows r p ≡ refused 8
  unfolding standing
  standing_none p n = rw (ne_eqb (row rows p) r n) refl

  module _ (s e : ℕ) where
    -- ---- the place of r from s to below e, case by case
    pub halved_place_none : e ≤ s → halved_place rows r s e ≡ refused 8
    unfolding halved_place
    halved_place_none h = rw (le-leb e s h) refl

    module _ (some : s < e) where
      pub halved_place_first : row rows s ≡ r → halved_place rows r s e ≡ answered s
      unfolding halved_place
      halved_place_first h = rw (lt-leb e s some, eq-eqb (row rows s) r h) refl

      pub halved_place_below : r < row rows s → halved_place rows r s e ≡ refused 8
      unfolding halved_place
      halved_place_below h =
          let n : row rows s ≡ r → ⊥ = λ q. omega (arith, q, h) in
          rw (lt-leb e s some, ne_eqb (row rows s) r n, lt-ltb r (row rows s) h) refl

      module _ (n : row rows s ≡ r → ⊥) (above : row rows s ≤ r) where
        pub halved_place_above : row rows (e - 1) < r → halved_place rows r s e ≡ refused 8
        unfolding halved_place
        halved_place_above h = rw (lt-leb e s some, ne_eqb (row rows s) r n, le-ltb r (row rows s) above, lt-ltb (row rows (e - 1)) r h) refl

        pub halved_place-candidate : r ≤ row rows (e - 1) → halved_place rows r s e ≡ standing rows r (candidate rows r s e)
        unfolding halved_place
        halved_place-candidate h = rw (lt-leb e s some, ne_eqb (row rows s) r n, le-ltb r (row rows s) above, le-ltb (row rows (e - 1)) r h) refl

    pub candidate-run : row rows (e - 1) - row rows s ≡ e - 1 - s → candidate rows r s e ≡ s + (r - row rows s)
    unfolding candidate
    candidate-run h = rw (eq-eqb _ _ h) refl

    pub candidate-halving : (row rows (e - 1) - row rows s ≡ e - 1 - s → ⊥) → candidate rows r s e ≡ halving rows r s (e - s)
    unfolding candidate
    candidate-halving h = rw (ne_eqb _ _ h) refl

    candidate_inside : s < e → r ≤ row rows (e - 1) → candidate rows r s e < e
    candidate_inside h l = of (eqb (row rows (e - 1) - row rows s) (e - 1 - s)) refl
      where
        of : (b : Bool) → eqb (row rows (e - 1) - row rows s) (e - 1 - s) ≡ b → candidate rows r s e < e
        of true y = let q = eqb-true _ _ y in omega (arith, candidate-run q, q)
        of false y = omega (arith, candidate-halving (eqb-false _ _ y), (halving_inside s (e - s) (omega arith)).1)

    -- a place that is found lies below e, whatever the rows are
    pub halved_place_inside : (p : ℕ) → halved_place rows r s e ≡ answered p → p < e
    halved_place_inside p f = elim (dec_lt s e) [
      | no h ↦ absurd (refused-answered (sym (halved_place_none (omega arith)) ∙ f))
      | yes h ↦ elim (dec_lt r (row rows s)) [
        | yes l ↦ absurd (refused-answered (sym (halved_place_below h l) ∙ f))
        | no l ↦ of h (omega arith) (eqb (row rows s) r) refl
      ]
    ]
      where
        of : s < e → row rows s ≤ r → (b : Bool) → eqb (row rows s) r ≡ b → p < e
        of h l true y = omega (arith, answered_same (sym (halved_place_first h (eqb-true _ _ y)) ∙ f), h)
        of h l false y = elim (dec_lt (row rows (e - 1)) r) [
          | yes u ↦ absurd (refused-answered (sym (halved_place_above h (eqb-false _ _ y) l u) ∙ f))
          | no u ↦
              let w = candidate_inside h (omega arith) in
              omega (arith, w, standing_place (candidate rows r s e) p (sym (halved_place-candidate h (eqb-false _ _ y) l (omega arith)) ∙ f))
        ]

-- ---- in ascending rows
module _ (rows : List ℕ) (s e : ℕ) (A : Ascends rows s e) where
  -- rows rise by one at least
  rising : (p k : ℕ) → s ≤ p → p + k < e → row rows p + k ≤ row rows (p + k)
  rising p zero h l = let q : p + 0 ≡ p = omega arith in rw q (omega arith)
  rising p (suc k) h l =
      let q : p + suc k ≡ suc (p + k) = omega arith in
      omega (arith, rising p k h (omega arith), A (p + k) (p + suc k) (omega arith) (omega arith) l)

  -- so that in a run each row stands at its distance from the first
  run_there : (r : ℕ) → s < e → row rows s ≤ r → r ≤ row rows (e - 1) → row rows (e - 1) - row rows s ≡ e - 1 - s → row rows (s + (r - row rows s)) ≡ r
  run_there r h lo hi q =
      let k = r - row rows s in
      let a : s + k < e = omega (arith, q) in
      let b : row rows s + k ≤ row rows (s + k) = rising s k (le_refl s) a in
      let j = e - 1 - (s + k) in
      let w : s + k + j ≡ e - 1 = omega arith in
      let d : row rows (s + k) + j ≤ row rows (s + k + j) = rising (s + k) j (omega arith) (omega (arith, w)) in
      omega (arith, b, d, ap (row rows) w, q, lo, hi)

  -- the first row is the least, the last the largest
  least : (r p : ℕ) → Stands rows r s e p → row rows s ≤ r
  least r p S = elim (dec_lt s p) [
    | yes l ↦ omega (arith, A s p (le_refl s) l S.below, S.there)
    | no l ↦ let q : p ≡ s = omega (arith, S.from) in omega (arith, ap (row rows) q, S.there)
  ]

  largest : (r p : ℕ) → Stands rows r s e p → r ≤ row rows (e - 1)
  largest r p S = elim (dec_lt p (e - 1)) [
    | yes l ↦ omega (arith, A p (e - 1) S.from l (omega (arith, l)), S.there)
    | no l ↦ let q : p ≡ e - 1 = omega (arith, S.below) in omega (arith, ap (row rows) q, S.there)
  ]

  nowhere : (r : ℕ) → ((p : ℕ) → Stands rows r s e p → ⊥) → place_in rows r s e ≡ refused 8
  nowhere r none = place_in_absent rows r s e (not_so _ (λ h. let f = holds_stands rows r s e h in none f.0 f.1))

  halved : (r : ℕ) → s < e → standing rows r (halving rows r s (e - s)) ≡ place_in rows r s e
  halved r h = of (holds rows r s e) refl
    where
      of : (b : Bool) → holds rows r s e ≡ b → standing rows r (halving rows r s (e - s)) ≡ place_in rows r s e
      of true y =
          let q : s + (e - s) ≡ e = omega arith in
          let f = holds_stands rows r s e y in
          let w : halving rows r s (e - s) ≡ f.0 =
          halving_in-finds rows r (e - s) s (e - s) f.0 (le_refl _) (subst (Ascends rows s) (sym q) A) (subst (λ (k : ℕ). Stands rows r s k f.0) (sym q) f.1) in
          rw w (standing_here rows r f.0 f.1.there ∙ sym (place_in_at rows r s e A f.0 f.1))
      of false y =
          let i = halving_inside rows r s (e - s) (omega arith) in
          standing_none rows r (halving rows r s (e - s))
          (λ q. false≢true (sym y ∙ stands_holds rows r s e _ (record { from = i.0; below = omega (arith, i.1); there = q })))
          ∙ sym (place_in_absent rows r s e y)

  found : (r : ℕ) → s < e → row rows s ≤ r → r ≤ row rows (e - 1) → standing rows r (candidate rows r s e) ≡ place_in rows r s e
  found r h lo hi = of (eqb (row rows (e - 1) - row rows s) (e - 1 - s)) refl
    where
      of : (b : Bool) → eqb (row rows (e - 1) - row rows s) (e - 1 - s) ≡ b → standing rows r (candidate rows r s e) ≡ place_in rows r s e
      of true y =
          let q = eqb-true _ _ y in
          let t = run_there r h lo hi q in
          rw (candidate-run rows r s e q)
          (standing_here rows r (s + (r - row rows s)) t ∙ sym (place_in_at rows r s e A _ (record { from = omega arith; below = omega (arith, q); there = t })))
      of false y = rw (candidate-halving rows r s e (eqb-false _ _ y)) (halved r h)

  -- the place found is the row's
  pub halved_place_place_in : (r : ℕ) → halved_place rows r s e ≡ place_in rows r s e
  halved_place_place_in r = elim (dec_lt s e) [
    | yes h ↦ elim (dec_lt r (row rows s)) [
      | yes l ↦ halved_place_below rows r s e h l ∙ sym (nowhere r (λ p S. omega (arith, least r p S, l)))
      | no l ↦ of h (omega arith) (eqb (row rows s) r) refl
    ]
    | no h ↦ halved_place_none rows r s e (omega arith) ∙ sym (nowhere r (λ p S. omega (arith, S.from, S.below)))
  ]
    where
      of : s < e → row rows s ≤ r → (b : Bool) → eqb (row rows s) r ≡ b → halved_place rows r s e ≡ place_in rows r s e
      of h l true y =
          let q = eqb-true _ _ y in
          halved_place_first rows r s e h q ∙ sym (place_in_at rows r s e A s (record { from = le_refl s; below = h; there = q }))
      of h l false y = elim (dec_lt (row rows (e - 1)) r) [
        | yes u ↦ halved_place_above rows r s e h (eqb-false _ _ y) l u ∙ sym (nowhere r (λ p S. omega (arith, largest r p S, u)))
        | no u ↦ halved_place-candidate rows r s e h (eqb-false _ _ y) l (omega arith) ∙ found r h l (omega arith)
      ]

-- ---- the column and the lookup, case by case
module _ (starts rows : List ℕ) (values r c : ℕ) where
  pub column_within_rows : length rows < start starts (c + 1) → column_within starts rows values r c ≡ refused 8
  unfolding column_within
  column_within_rows h = rw (lt-ltb _ _ h) refl

  module _ (stored : start starts (c + 1) ≤ length rows) where
    pub column_within_values : values < start starts (c + 1) → column_within starts rows values r c ≡ refused 8
    unfolding column_within
    column_within_values h = rw (le-ltb _ _ stored, lt-ltb _ _ h) refl

    pub column_within_place : start starts (c + 1) ≤ values → column_within starts rows values r c ≡ halved_place rows r (start starts c) (start starts (c + 1))
    unfolding column_within
    column_within_place h = rw (le-ltb _ _ stored, le-ltb _ _ h) refl

  -- a place that is found is one of the values
  pub column_within_inside : (p : ℕ) → column_within starts rows values r c ≡ answered p → p < values
  column_within_inside p f = elim (dec_lt (length rows) (start starts (c + 1))) [
    | yes h ↦ absurd (refused-answered (sym (column_within_rows h) ∙ f))
    | no h ↦ elim (dec_lt values (start starts (c + 1))) [
      | yes l ↦ absurd (refused-answered (sym (column_within_values (omega arith) l) ∙ f))
      | no l ↦ omega (arith, halved_place_inside rows r (start starts c) (start starts (c + 1)) p (sym (column_within_place (omega arith) (omega arith)) ∙ f))
    ]
  ]

  pub place_within-outside : dimension starts ≤ r → place_within starts rows values r c ≡ refused 8
  unfolding place_within
  place_within-outside h = rw (le-leb _ _ h) refl

  pub place_within_column : r < dimension starts → place_within starts rows values r c ≡ column_within starts rows values r c
  unfolding place_within
  place_within_column h = rw (lt-leb _ _ h) refl

  -- and so here
  pub place_within_inside : (p : ℕ) → place_within starts rows values r c ≡ answered p → p < values
  place_within_inside p f = elim (dec_lt r (dimension starts)) [
    | yes h ↦ column_within_inside p (sym (place_within_column h) ∙ f)
    | no h ↦ absurd (refused-answered (sym (place_within-outside (omega arith)) ∙ f))
  ]

-- in a well-formed result it is the place that the lookup finds
pub within_place : {starts rows : List ℕ} {values : ℕ} → WellFormed starts rows values → (row col : ℕ)
    → lookup_place_within starts rows values row col ≡ lookup_place starts rows values row col
within_place {starts} {rows} {values} W row col = elim (dec_lt (max row col) (dimension starts)) [
  | yes l ↦
      let c = min row col in
      let C = W.column c (omega arith) in
      place_within_column starts rows values (max row col) c l
      ∙ column_within_place starts rows values (max row col) c C.stored C.weighed
      ∙ halved_place_place_in rows (start starts c) (start starts (c + 1)) C.ascends (max row col)
      ∙ sym (lookup_place_column starts rows values W row col l)
  | no l ↦ place_within-outside starts rows values (max row col) (min row col) (omega arith) ∙ sym (lookup_place-outside starts rows values W row col (omega arith))
]

-- so that it is the lookup
pub within_lookup : {A : Type 0} (blank : A) (starts rows : List ℕ) (values : List A) → WellFormed starts rows (length values) → (row col : ℕ)
    → lookup_within_of blank starts rows values row col ≡ lookup_of blank starts rows values row col
within_lookup blank starts rows values W row col = ap (value_at blank values) (within_place W row col) ∙ sym (lookup_place_lem blank starts rows values row col)
