-- A walk over the column of one descendant or the columns of two: the entries of the later descendants are met in order, and what the sums hold.
-- Assumes nothing.
use Prim.Native.Nat.{ℕ, ◌+◌, ◌≤◌, ◌<◌}
use native.Mathlib.Omega.{arith}
use native.Mathlib.Nat.{le_refl, le_of_lt, lt_of_lt_of_le, le_of_eq}
use native.Mathlib.Decide.{dec_lt}
use mathlib.Core.Path.{◌≡◌, refl, sym, ap, subst, ◌∙◌}
use mathlib.Core.List.{List}
use lib.ListN.{get_or, set}
use lib.Ieee.{Float, nan}
use Rattle.exact.specs.Exact.{floats}
use Rattle.scatter.specs.Scatter.{terms_at, Between}
use Rattle.scatter.specs.Sums.{Walking}
use Rattle.scatter.proofs.Sums.{terms_next, walking_enter, walking_met, walking_back, walking_leave, at_below, at_above}
use Rattle.factor_route.specs.Walk.{DescendantsMarked, MarkAt, MarkAhead, StandsAt, ColumnWalk, PairWalk, ColumnIs, PairIs, Scattered}

-- ---- the next mark
module _ {rows marker : List ℕ} {q e t : ℕ} (A : MarkAhead rows marker q e t) where
  pub mark_inside : q < e
  mark_inside = let h = A.there.from in let g = A.there.below in omega arith

  -- it is not at q
  pub mark_skip : (get_or marker (get_or rows q 0) 0 ≡ t → ⊥) → MarkAhead rows marker (q + 1) e t
  mark_skip f = record {
    stored = A.stored;
    fits = λ x lo hi. A.fits x (omega arith) hi;
    place = A.place;
    there = record {
      from = elim (dec_lt q A.place) [
        | yes l ↦ omega arith
        | no h ↦
            let g = A.there.from in
            let s : A.place ≡ q = omega arith in
            absurd (f (subst (λ (k : ℕ). get_or marker (get_or rows k 0) 0 ≡ t) s A.there.mark))
      ];
      below = A.there.below;
      mark = A.there.mark;
    };
  }

-- ---- what a walk keeps
-- from q on stand the rows of all descendants from position t on
pub record Ahead (rows : List ℕ) (a e b m c q t : ℕ) : Type 0 where
  pub from : a < q
  pub upto : q ≤ e
  pub past : c < t
  pub bound : t ≤ m
  pub stands : (u : ℕ) → t ≤ u → u < m → (x : ℕ) × StandsAt rows q e (get_or rows (b + u) 0) x

-- in one column, past the places before q and the rows before position t
pub record InColumn (rows : List ℕ) (values : List Float) (a e b m c : ℕ) (weights sums₀ : List Float) (q t : ℕ) (held : Float) (sums : List Float)
    : Type 0 where
  pub ahead : Ahead rows a e b m c q t
  pub sums_are : (Z : ℕ → ℕ → Float) → ColumnIs rows values a e b c Z → Between floats nan Z rows b m weights c sums₀
      → Walking floats nan Z rows b weights m c (c + 1) t sums × (held ≡ terms_at floats nan Z rows b m weights c t)

-- in two columns
pub record InPair (rows : List ℕ) (values : List Float) (a e shift b m c : ℕ) (weights sums₀ : List Float) (q t : ℕ) (held next : Float) (sums : List Float)
    : Type 0 where
  pub ahead : Ahead rows a e b m c q t
  pub past : c + 1 < t
  pub sums_are : (Z : ℕ → ℕ → Float) → PairIs rows values a e shift b c Z → Between floats nan Z rows b m weights c sums₀
      → Walking floats nan Z rows b weights m c (c + 2) t sums × (held ≡ terms_at floats nan Z rows b m weights c t)
      × (next ≡ terms_at floats nan Z rows b m weights (c + 1) t)

module _ {rows : List ℕ} {a e b m c : ℕ} (W : ColumnWalk rows a e b m c) where
  -- ---- the places ahead
  pub ahead_start : Ahead rows a e b m c (a + 1) (c + 1)
  ahead_start = record {
    from = omega arith;
    upto = let h = W.begins in omega arith;
    past = omega arith;
    bound = let h = W.here in omega arith;
    stands = λ u l h. W.covers u (omega arith) h;
  }

  -- past the place of the row at t
  pub ahead_next : (q t p : ℕ) → t < m → q ≤ p → p < e → get_or rows p 0 ≡ get_or rows (b + t) 0 → Ahead rows a e b m c q t → Ahead rows a e b m c (p + 1) (t + 1)
  ahead_next q t p tm qp pe is A = record {
    from = let h = A.from in omega arith;
    upto = omega arith;
    past = let h = A.past in omega arith;
    bound = omega arith;
    stands = λ u l h.
        let x = A.stands u (omega arith) h in
        let r : get_or rows (b + t) 0 < get_or rows (b + u) 0 = W.rising t u (omega arith) h in
        let g : p < x.0 = later x.0 x.1.0 x.1.1 x.1.2 r in
        (x.0, (omega arith, x.1.1, x.1.2));
  }
    where
      later : {u : ℕ} (x : ℕ) → q ≤ x → x < e → get_or rows x 0 ≡ u → get_or rows (b + t) 0 < u → p < x
      later x lo hi ex r = elim (dec_lt p x) [
        | yes l ↦ l
        | no f ↦ elim (dec_lt x p) [
          | yes l ↦ absurd (let h = W.ascends x p (let g = A.from in omega arith) l pe in omega arith)
          | no g ↦ absurd (let s : x ≡ p = omega arith in let h = ap (λ (k : ℕ). get_or rows k 0) s in omega arith)
        ]
      ]

  module _ {marker : List ℕ} (K : DescendantsMarked rows b m marker) where
    pub ahead_mark : (q t : ℕ) → t < m → Ahead rows a e b m c q t → MarkAhead rows marker q e t
    ahead_mark q t tm A =
        let x = A.stands t (le_refl t) tm in record {
          stored = W.stored;
          fits = λ y lo hi. W.fits y (let h = A.from in omega arith) hi;
          place = x.0;
          there = record { from = x.1.0; below = x.1.1; mark = ap (λ (i : ℕ). get_or marker i 0) x.1.2 ∙ K.marked t tm };
        }

    -- a mark tells its descendant's row
    pub mark_row : (q t p : ℕ) → t < m → MarkAt rows marker q e t p → Ahead rows a e b m c q t → get_or rows p 0 ≡ get_or rows (b + t) 0
    mark_row q t p tm F A = K.only (get_or rows p 0) t (W.fits p (let h = A.from in let g = F.from in omega arith) F.below) tm F.mark

  rising_le : (p u : ℕ) → p ≤ u → u < m → get_or rows (b + p) 0 ≤ get_or rows (b + u) 0
  rising_le p u h um = elim (dec_lt p u) [
    | yes l ↦ le_of_lt (W.rising p u l um)
    | no f ↦ let s : p ≡ u = omega arith in le_of_eq (ap (λ (k : ℕ). get_or rows (b + k) 0) s)
  ]

  module _ (values weights : List Float) where
    -- values of the column at position u, read where the row of position t stands: as the term of u in the sum at t, and of t in the sum at u
    module _ (Z : ℕ → ℕ → Float) (t u p : ℕ) (ut : u ≤ t) (tm : t < m) (is : get_or rows p 0 ≡ get_or rows (b + t) 0) (z : Float)
        (v : z ≡ Z (get_or rows p 0) (get_or rows (b + u) 0)) (x : Float) where
      table_is : z ≡ Z (get_or rows (b + t) 0) (get_or rows (b + u) 0)
      table_is = v ∙ ap (λ (k : ℕ). Z k (get_or rows (b + u) 0)) is

      pub term_at_lem : x ≡ terms_at floats nan Z rows b m weights t u
          → floats.plus x (floats.times (get_or weights u nan) z) ≡ terms_at floats nan Z rows b m weights t (u + 1)
      term_at_lem ex = terms_next floats nan Z rows b weights m t u x (get_or weights u nan) z ex refl
          (at_below Z (get_or rows (b + t) 0) (get_or rows (b + u) 0) z (rising_le u t ut tm) table_is)

      pub term-held : x ≡ terms_at floats nan Z rows b m weights u t
          → floats.plus x (floats.times (get_or weights t nan) z) ≡ terms_at floats nan Z rows b m weights u (t + 1)
      term-held ex = terms_next floats nan Z rows b weights m u t x (get_or weights t nan) z ex refl
          (at_above Z (get_or rows (b + u) 0) (get_or rows (b + t) 0) z (rising_le u t ut tm) table_is)

    -- ---- one column
    module _ {marker : List ℕ} (K : DescendantsMarked rows b m marker) (sums₀ : List Float) where
      pub column_start : InColumn rows values a e b m c weights sums₀ (a + 1) (c + 1)
          (floats.plus (get_or sums₀ c nan) (floats.times (get_or weights c nan) (get_or values a nan))) sums₀
      column_start = record {
        ahead = ahead_start;
        sums_are = λ Z I₀ B. (
          walking_enter floats nan Z rows b weights m c (c + 1) sums₀ (omega arith) B,
          term_at_lem Z c c a (le_refl c) W.here W.own (get_or values a nan) (I₀.value a (le_refl a) W.begins) (get_or sums₀ c nan)
              (B.rest c (le_refl c) W.here),
        );
      }

      pub column_next : (q t p : ℕ) (held : Float) (sums : List Float) → t < m → MarkAt rows marker q e t p → InColumn rows values a e b m c weights sums₀ q t held sums
          → InColumn rows values a e b m c weights sums₀ (p + 1) (t + 1) (floats.plus held (floats.times (get_or weights t nan) (get_or values p nan)))
          (set sums t (floats.plus (get_or sums t nan) (floats.times (get_or weights c nan) (get_or values p nan))))
      column_next q t p held sums tm F I =
          let A = I.ahead in
          let is = mark_row K q t p tm F A in record {
            ahead = ahead_next q t p tm F.from F.below is A;
            sums_are = λ Z I₀ B.
                let S = I.sums_are Z I₀ B in
                let v = I₀.value p (let h = A.from in let g = F.from in omega arith) F.below in
                let ct : c ≤ t = let h = A.past in omega arith in
                let x = S.0.rest t (le_refl t) tm in (
                  walking_met floats nan Z rows b weights m c (c + 1) t sums _ (omega arith) (let h = A.past in omega arith)
                      (lt_of_lt_of_le tm W.few) (term_at_lem Z t c p ct tm is (get_or values p nan) v (get_or sums t nan) x) S.0,
                  term-held Z t c p ct tm is (get_or values p nan) v held S.1,
                );
          }

      pub column_end_lem : (q t : ℕ) (held : Float) (sums : List Float) → m ≤ t → InColumn rows values a e b m c weights sums₀ q t held sums
          → Scattered (ColumnIs rows values a e b c) rows b m weights c (c + 1) sums₀ (set sums c held)
      column_end_lem q t held sums h I =
          let s : t ≡ m = let g = I.ahead.bound in omega arith in record {
            sums_are = λ Z I₀ B.
                let S = subst (λ (k : ℕ). Walking floats nan Z rows b weights m c (c + 1) k sums × (held ≡ terms_at floats nan Z rows b m weights c k)) s
                (I.sums_are Z I₀ B) in
                walking_leave floats nan Z rows b weights m (c + 1) (set sums c held)
                (walking_back floats nan Z rows b weights m c (c + 1) sums held (omega arith) (lt_of_lt_of_le W.here W.few) S.1 S.0);
          }

-- ---- two columns
module _ {rows : List ℕ} {a e b m c : ℕ} (P : PairWalk rows a e b m c) {marker : List ℕ} (K : DescendantsMarked rows b m marker) (values weights : List Float)
    (shift : ℕ) (sums₀ : List Float) where
  abbrev W : ColumnWalk rows a e b m c
  W = P.column

  pub pair_second : a + 1 < e
  pair_second = let x = W.covers (c + 1) (omega arith) P.next in let h = x.1.0 in let g = x.1.1 in omega arith

  two : (k : ℕ) → k + 1 + 1 ≡ k + 2
  two k = omega arith

  pub pair_start : InPair rows values a e shift b m c weights sums₀ (a + 2) (c + 2)
      (floats.plus (floats.plus (get_or sums₀ c nan) (floats.times (get_or weights c nan) (get_or values a nan)))
      (floats.times (get_or weights (c + 1) nan) (get_or values (a + 1) nan)))
      (floats.plus (floats.plus (get_or sums₀ (c + 1) nan) (floats.times (get_or weights c nan) (get_or values (a + 1) nan)))
      (floats.times (get_or weights (c + 1) nan) (get_or values (a + 1 + shift) nan)))
      sums₀
  pair_start = record {
    ahead = subst (λ (k : ℕ). Ahead rows a e b m c (a + 2) k) (two c) (subst (λ (k : ℕ). Ahead rows a e b m c k (c + 1 + 1)) (two a)
        (ahead_next W (a + 1) (c + 1) (a + 1) P.next (le_refl (a + 1)) pair_second P.second (ahead_start W)));
    past = omega arith;
    sums_are = λ Z I₀ B.
        let v = I₀.column.value (a + 1) (omega arith) pair_second in
        let z : Float = get_or values (a + 1) nan in (
          walking_enter floats nan Z rows b weights m c (c + 2) sums₀ (omega arith) B,
          term-held W values weights Z (c + 1) c (a + 1) (omega arith) P.next P.second z v _
              (term_at_lem W values weights Z c c a (le_refl c) W.here W.own (get_or values a nan) (I₀.column.value a (le_refl a) W.begins)
              (get_or sums₀ c nan)
              (B.rest c (le_refl c) W.here))
              ∙ ap (terms_at floats nan Z rows b m weights c) (two c),
          term_at_lem W values weights Z (c + 1) (c + 1) (a + 1) (le_refl (c + 1)) P.next P.second (get_or values (a + 1 + shift) nan)
              (I₀.value (a + 1) (le_refl (a + 1)) pair_second) _
              (term_at_lem W values weights Z (c + 1) c (a + 1) (omega arith) P.next P.second z v (get_or sums₀ (c + 1) nan)
              (B.rest (c + 1) (omega arith) P.next))
              ∙ ap (terms_at floats nan Z rows b m weights (c + 1)) (two c),
        );
  }

  pub pair_next : (q t p : ℕ) (held next : Float) (sums : List Float) → t < m → MarkAt rows marker q e t p → InPair rows values a e shift b m c weights sums₀ q t held next sums
      → InPair rows values a e shift b m c weights sums₀ (p + 1) (t + 1) (floats.plus held (floats.times (get_or weights t nan) (get_or values p nan)))
      (floats.plus next (floats.times (get_or weights t nan) (get_or values (p + shift) nan)))
      (set sums t (floats.plus (floats.plus (get_or sums t nan) (floats.times (get_or weights c nan) (get_or values p nan)))
      (floats.times (get_or weights (c + 1) nan) (get_or values (p + shift) nan))))
  pair_next q t p held next sums tm F I =
      let A = I.ahead in
      let is = mark_row W K q t p tm F A in
      let lo : a + 1 ≤ p = let h = A.from in let g = F.from in omega arith in
      let ct : c + 1 ≤ t = let h = I.past in omega arith in record {
        ahead = ahead_next W q t p tm F.from F.below is A;
        past = omega arith;
        sums_are = λ Z I₀ B.
            let S = I.sums_are Z I₀ B in
            let v = I₀.column.value p (omega arith) F.below in
            let v₁ = I₀.value p lo F.below in
            let x = S.0.rest t (le_refl t) tm in (
              walking_met floats nan Z rows b weights m c (c + 2) t sums _ (omega arith) (let h = I.past in omega arith)
                  (lt_of_lt_of_le tm W.few)
                  (term_at_lem W values weights Z t (c + 1) p ct tm is (get_or values (p + shift) nan) v₁ _
                  (term_at_lem W values weights Z t c p (omega arith) tm is (get_or values p nan) v (get_or sums t nan) x)
                  ∙ ap (terms_at floats nan Z rows b m weights t) (two c)) S.0,
              term-held W values weights Z t c p (omega arith) tm is (get_or values p nan) v held S.1,
              term-held W values weights Z t (c + 1) p ct tm is (get_or values (p + shift) nan) v₁ next S.2,
            );
      }

  pub pair_end : (q t : ℕ) (held next : Float) (sums : List Float) → m ≤ t → InPair rows values a e shift b m c weights sums₀ q t held next sums
      → Scattered (PairIs rows values a e shift b c) rows b m weights c (c + 2) sums₀ (set (set sums c held) (c + 1) next)
  pair_end q t held next sums h I =
      let s : t ≡ m = let g = I.ahead.bound in omega arith in record {
        sums_are = λ Z I₀ B.
            let S = subst (λ (k : ℕ). Walking floats nan Z rows b weights m c (c + 2) k sums × (held ≡ terms_at floats nan Z rows b m weights c k)
            × (next ≡ terms_at floats nan Z rows b m weights (c + 1) k)) s
            (I.sums_are Z I₀ B) in
            subst (λ (k : ℕ). Between floats nan Z rows b m weights k (set (set sums c held) (c + 1) next)) (two c)
            (walking_leave floats nan Z rows b weights m (c + 1 + 1) (set (set sums c held) (c + 1) next)
            (subst (λ (k : ℕ). Walking floats nan Z rows b weights m (c + 1 + 1) k m (set (set sums c held) (c + 1) next)) (sym (two c))
            (walking_back floats nan Z rows b weights m (c + 1) (c + 2) (set sums c held) next (omega arith) (lt_of_lt_of_le P.next W.few) S.2
            (walking_back floats nan Z rows b weights m c (c + 2) sums held (omega arith) (lt_of_lt_of_le W.here W.few) S.1 S.0))));
      }
