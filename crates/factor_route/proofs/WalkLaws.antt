-- Two columns with the same rows, and the columns of the descendants one after the other.
-- Assumes nothing.
use Prim.Native.Nat.{ℕ, zero, suc, ◌+◌, ◌-◌, ◌≤◌, ◌<◌}
use native.Mathlib.Omega.{arith}
use native.Mathlib.Decide.{dec_lt}
use mathlib.Core.Path.{◌≡◌, sym, ap, subst, ◌∙◌}
use mathlib.Core.List.{List}
use lib.ListN.{length, get_or}
use lib.Ieee.{Float}
use Rattle.factor_route.specs.Walk.{StandsAt, ColumnWalk, PairWalk, WalkAt, SameRows, start_of, end_of}
use Rattle.factor_route.specs.Walk.{ColumnIs, PairIs, ColumnsAre, Scattered, Advanced}

-- ---- ascending rows
module _ (rows : List ℕ) (f g : ℕ) (ascends : (x y : ℕ) → f ≤ x → x < y → y < g → get_or rows x 0 < get_or rows y 0) where
  -- a lesser row stands before
  before : (x y : ℕ) → f ≤ y → x < g → get_or rows x 0 < get_or rows y 0 → x < y
  before x y fy xg l = elim (dec_lt x y) [
    | yes h ↦ h
    | no h ↦ elim (dec_lt y x) [
      | yes k ↦ absurd (let q = ascends y x fy k xg in omega arith)
      | no k ↦ absurd (let q : x ≡ y = omega arith in let r = ap (λ (i : ℕ). get_or rows i 0) q in omega arith)
    ]
  ]

  -- a row stands once
  once : (x y : ℕ) → f ≤ x → f ≤ y → x < g → y < g → get_or rows x 0 ≡ get_or rows y 0 → x ≡ y
  once x y fx fy xg yg e = elim (dec_lt x y) [
    | yes h ↦ absurd (let q = ascends x y fx h yg in omega arith)
    | no h ↦ elim (dec_lt y x) [
      | yes k ↦ absurd (let q = ascends y x fy k xg in omega arith)
      | no k ↦ omega arith
    ]
  ]

  -- the rows from s to below e, which ascend and all stand there
  module _ (s e : ℕ) (some : s < e) (up : (x y : ℕ) → s ≤ x → x < y → y < e → get_or rows x 0 < get_or rows y 0)
      (there : (x : ℕ) → s ≤ x → x < e → (y : ℕ) × StandsAt rows f g (get_or rows x 0) y) where
    -- each has as many rows before it, or more
    least : (d x y : ℕ) → x ≡ s + d → x < e → StandsAt rows f g (get_or rows x 0) y → f + d ≤ y
    least zero x y q h t = let k = t.0 in omega arith
    least (suc d) x y q h t =
        let w = there (s + d) (omega arith) (omega arith) in
        let i = least d (s + d) w.0 (omega arith) (omega arith) w.1 in
        let l = up (s + d) x (omega arith) (omega arith) h in
        let k = before w.0 y t.0 w.1.1 (omega (arith, w.1.2, t.2)) in
        omega arith

    pub last_inside : f + (e - 1 - s) < g
    last_inside =
        let w = there (e - 1) (omega arith) (omega arith) in
        let h = least (e - 1 - s) (e - 1) w.0 (omega arith) (omega arith) w.1 in
        let k = w.1.1 in
        omega arith

    module _ (ends : get_or rows (f + (e - 1 - s)) 0 ≡ get_or rows (e - 1) 0) where
      -- and as many after it
      most : (d x y : ℕ) → x + d ≡ e - 1 → s ≤ x → StandsAt rows f g (get_or rows x 0) y → y + d ≤ f + (e - 1 - s)
      most zero x y q lo t =
          let r : x ≡ e - 1 = omega arith in
          let k = once y (f + (e - 1 - s)) t.0 (omega arith) t.1 last_inside (t.2 ∙ ap (λ (i : ℕ). get_or rows i 0) r ∙ sym ends) in
          omega arith
      most (suc d) x y q lo t =
          let w = there (x + 1) (omega arith) (omega arith) in
          let i = most d (x + 1) w.0 (omega arith) (omega arith) w.1 in
          let l = up x (x + 1) lo (omega arith) (omega arith) in
          let k = before y w.0 w.1.0 t.1 (omega (arith, w.1.2, t.2)) in
          omega arith

      pub same_rows : (x : ℕ) → s ≤ x → x < e → get_or rows (f + (x - s)) 0 ≡ get_or rows x 0
      same_rows x lo hi =
          let w = there x lo hi in
          let h = least (x - s) x w.0 (omega arith) hi w.1 in
          let k = most (e - 1 - x) x w.0 (omega arith) lo w.1 in
          let q : w.0 ≡ f + (x - s) = omega arith in
          subst (λ (i : ℕ). get_or rows i 0 ≡ get_or rows x 0) q w.1.2

-- ---- the column at hand and the next
module _ {starts rows : List ℕ} {a e b m c : ℕ} (W : WalkAt starts rows a e b m c) where
  pub at_column : ColumnWalk rows a e b m c
  at_column = rw (W.from, W.upto) (W.walk.column c W.here)

  module _ (next : c + 1 < m) where
    pub at_next : ColumnWalk rows (start_of starts rows b (c + 1)) (end_of starts rows b (c + 1)) b m (c + 1)
    at_next = W.walk.column (c + 1) next

    pub at_after : e ≤ start_of starts rows b (c + 1)
    at_after = omega (arith, W.walk.after c next, W.upto)

    pub at_second : a + 1 < e
    at_second = let x = at_column.covers (c + 1) (omega arith) next in let h = x.1.0 in let g = x.1.1 in omega arith

    module _ (second : get_or rows (a + 1) 0 ≡ get_or rows (b + (c + 1)) 0) where
      there : (x : ℕ) → a + 1 ≤ x → x < e
          → (y : ℕ) × StandsAt rows (start_of starts rows b (c + 1)) (end_of starts rows b (c + 1)) (get_or rows x 0) y
      there x lo hi =
          W.walk.closed c x next (omega (arith, W.from)) (omega (arith, W.upto))
          (subst (λ (k : ℕ). get_or rows (k + 1) 0 ≡ get_or rows (b + (c + 1)) 0) W.from second)

      module _ (f : ℕ) (ef : f ≡ start_of starts rows b (c + 1)) where
        up : (x y : ℕ) → a + 1 ≤ x → x < y → y < e → get_or rows x 0 < get_or rows y 0
        up x y lo l hi = at_column.ascends x y (omega arith) l hi

        inside : start_of starts rows b (c + 1) + (e - 1 - (a + 1)) < end_of starts rows b (c + 1)
        inside =
            last_inside rows (start_of starts rows b (c + 1)) (end_of starts rows b (c + 1)) at_next.ascends (a + 1) e at_second up there

        pub at_last : f + (e - a - 2) < length rows
        at_last = omega (arith, inside, at_next.stored)

        pub at_alike : get_or rows (f + (e - a - 2)) 0 ≡ get_or rows (e - 1) 0 → SameRows starts rows a e b m c
        at_alike ends = record {
          next = next;
          second = second;
          fits = omega (arith, inside, at_after, at_second);
          same = λ x lo hi.
              let q : start_of starts rows b (c + 1) + (x - (a + 1)) ≡ x + (start_of starts rows b (c + 1) - (a + 1)) =
              omega (arith, at_after, at_second) in
              subst (λ (i : ℕ). get_or rows i 0 ≡ get_or rows x 0) q
              (same_rows rows (start_of starts rows b (c + 1)) (end_of starts rows b (c + 1)) at_next.ascends (a + 1) e at_second up there ends' x lo hi);
        }
          where
            ends' : get_or rows (start_of starts rows b (c + 1) + (e - 1 - (a + 1))) 0 ≡ get_or rows (e - 1) 0
            ends' =
                let q : start_of starts rows b (c + 1) + (e - 1 - (a + 1)) ≡ f + (e - a - 2) = omega (arith, ef, at_second) in
                ap (λ (i : ℕ). get_or rows i 0) q ∙ ends

  pub at_pair : SameRows starts rows a e b m c → PairWalk rows a e b m c
  at_pair K = record { column = at_column; next = K.next; second = K.second }

  module _ (values weights sums sums' : List Float) where
    column_is : (Z : ℕ → ℕ → Float) → ColumnsAre starts rows values b m Z → ColumnIs rows values a e b c Z
    column_is Z A = rw (W.from, W.upto) (A.column c W.here)

    pub column_advanced : Scattered (ColumnIs rows values a e b c) rows b m weights c (c + 1) sums sums'
        → Advanced starts rows values b m weights c (c + 1) sums sums'
    column_advanced S = record {
      further = omega arith;
      upto = let h = W.here in omega arith;
      scattered = record { sums_are = λ Z A B. S.sums_are Z (column_is Z A) B };
    }

    pub pair_advanced : (shift : ℕ) → shift ≡ start_of starts rows b (c + 1) - (a + 1) → SameRows starts rows a e b m c
        → Scattered (PairIs rows values a e shift b c) rows b m weights c (c + 2) sums sums'
        → Advanced starts rows values b m weights c (c + 2) sums sums'
    pair_advanced shift q K S = record {
      further = omega arith;
      upto = let h = K.next in omega arith;
      scattered = record {
        sums_are = λ Z A B. S.sums_are Z (record {
          column = column_is Z A;
          value = rw q (λ x lo hi.
              (A.column (c + 1) K.next).value (x + (start_of starts rows b (c + 1) - (a + 1)))
              (omega (arith, at_after K.next, at_second K.next)) (omega (arith, K.fits))
              ∙ ap (λ (k : ℕ). Z k (get_or rows (b + (c + 1)) 0)) (K.same x lo hi));
        }) B;
      };
    }

-- ---- one after the other
module _ (starts rows : List ℕ) (values : List Float) (b m : ℕ) (weights sums : List Float) where
  pub scattered_none : Scattered (ColumnsAre starts rows values b m) rows b m weights 0 0 sums sums
  scattered_none = record { sums_are = λ Z A B. B }

  pub scattered_next : (c d : ℕ) (sums₁ sums₂ : List Float) → Scattered (ColumnsAre starts rows values b m) rows b m weights 0 c sums sums₁
      → Advanced starts rows values b m weights c d sums₁ sums₂ → Scattered (ColumnsAre starts rows values b m) rows b m weights 0 d sums sums₂
  scattered_next c d sums₁ sums₂ S A = record { sums_are = λ Z H B. A.scattered.sums_are Z H (S.sums_are Z H B) }

  pub scattered_end : (c : ℕ) (sums' : List Float) → c ≡ m → Scattered (ColumnsAre starts rows values b m) rows b m weights 0 c sums sums'
      → Scattered (ColumnsAre starts rows values b m) rows b m weights 0 m sums sums'
  scattered_end c sums' q S = subst (λ (k : ℕ). Scattered (ColumnsAre starts rows values b m) rows b m weights 0 k sums sums') q S
