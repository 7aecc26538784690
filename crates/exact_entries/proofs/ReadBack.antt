-- Laws of specs/ReadBack.antt.
use Rattle.std.specs.Prelude.{ℕ, ◌+◌, ◌-◌, ◌≤◌, ◌<◌, max, min, ◌≡◌, refl, Bool, true, false, cond, ◌&&◌, List, length, get_or, take}
use Rattle.std.proofs.Common.{arith, le_refl, sym, ap, subst, ◌∙◌, ap₂, lt-ltb, le-ltb}
use Rattle.std.proofs.Math.Decide.{dec_lt}
use Rattle.lists.specs.Test.{not_so}
use Rattle.lists.specs.Overwrite.{overwrite, overwrite-length, overwrite_at}
use Rattle.lists.specs.Tabulate.{tabulate_at}
use Rattle.refusal.specs.Steps.{Step, refused, answered, Passed}
use Rattle.pairs.specs.ColumnOrder.{set_size}
use Rattle.columns.specs.Columns.{start, row}
use Rattle.closed_set.specs.ClosedSet.{Needed, member, Pattern, Ranged}
use Rattle.closed_set.proofs.ClosedSet.{needed_range, needed_member, member_needed}
use Rattle.takahashi.specs.Recurrence.{at}
use Rattle.result.specs.Lookup.{dimension, lookup_of, WellFormed}
use Rattle.result.proofs.Laws.{lookup_ordered, lookup_at, lookup_absent, lookup-outside}
use Rattle.result.specs.Counted.{lookup_looks}
use Rattle.result.proofs.Counted.{diagonal_looks}
use Rattle.entries.specs.Entries.{column_count, position, entry_starts, entry_rows, entry_values}
use Rattle.entries.proofs.Entries.{entry_starts-length, entry_rows_length, entry_values-length}
use Rattle.entries.proofs.Position.{column_count_mono, position_in, position_rises, position_found, entry_rows_at, entry_values_at, position_first}
use Rattle.selection.specs.Selection.{LentOf, Filling, ListsAfter}
use Rattle.selection.proofs.Selection.{passed_starts, complete_rows, complete_values}
use Rattle.selection.proofs.SamePositions.{front_starts}
use Rattle.exact_entries.specs.ReadBack.{covered, read_back}

-- a pair of a closed set is covered, and no other
module _ (n : ℕ) (pat : ℕ → List ℕ) (req : ℕ → ℕ → Bool) (P : Pattern n pat) (R : Ranged n req) (row col : ℕ) where
  pub needed_covered : Needed pat req (max row col) (min row col) → covered n (member n pat req) row col ≡ true
  needed_covered p = ap₂ ◌&&◌ (lt-ltb _ _ (needed_range pat req n P R p).1) (needed_member n pat req P R p)

  pub other_covered : (Needed pat req (max row col) (min row col) → ⊥) → covered n (member n pat req) row col ≡ false
  other_covered none = elim (dec_lt (max row col) n) [
    | yes l ↦
        ap₂ ◌&&◌ (lt-ltb _ _ l)
        (not_so (member n pat req (max row col) (min row col)) (λ e. none ((member_needed n pat req P R (max row col) (min row col) (omega arith) l).0 e)))
    | no l ↦ ap (λ (b : Bool). b && member n pat req (max row col) (min row col)) (le-ltb (max row col) n (omega arith))
  ]

module _ {A : Type 0} (n : ℕ) (S : ℕ → ℕ → Bool) (Z : ℕ → ℕ → A) (blank : A) (rows : List ℕ) (values : List A)
    (rows_fit : set_size n S ≤ length rows) (values_fit : set_size n S ≤ length values) where
  abbrev starts : List ℕ
  starts = entry_starts n S

  abbrev rows' : List ℕ
  rows' = overwrite (entry_rows n S) rows

  abbrev values' : List A
  values' = overwrite (entry_values n S Z) values

  start_is : (c : ℕ) → c ≤ n → start starts c ≡ column_count n S c
  start_is c h = tabulate_at (column_count n S) (n + 1) c 0 (omega arith)

  dimension_is : dimension starts ≡ n
  dimension_is = omega (arith, entry_starts-length n S)

  rows_long : length rows' ≡ length rows
  rows_long = overwrite-length (entry_rows n S) rows (omega (arith, entry_rows_length n S))

  values_long : length values' ≡ length values
  values_long = overwrite-length (entry_values n S Z) values (omega (arith, entry_values-length n S Z))

  -- a pair's row and value at its position
  member_row : (r c : ℕ) → c ≤ r → r < n → S r c ≡ true → row rows' (position n S r c) ≡ r
  member_row r c h l t =
      let q = position_in n S r c h l t in
      let m = column_count_mono n S (c + 1) n (omega arith) in
      overwrite_at (entry_rows n S) rows (position n S r c) 0 (omega (arith, entry_rows_length n S)) ∙ entry_rows_at n S r c h l t

  member_value : (r c : ℕ) → c ≤ r → r < n → S r c ≡ true → get_or values' (position n S r c) blank ≡ Z r c
  member_value r c h l t =
      let q = position_in n S r c h l t in
      let m = column_count_mono n S (c + 1) n (omega arith) in
      overwrite_at (entry_values n S Z) values (position n S r c) blank (omega (arith, entry_values-length n S Z)) ∙ entry_values_at n S Z blank r c h l t

  -- rows ascend along a column
  ascending : (c : ℕ) → c < n → (q p : ℕ) → column_count n S c ≤ q → q < p → p < column_count n S (c + 1) → row rows' q < row rows' p
  ascending c h q p lo l hi =
      let a = position_found n S c q h lo (omega arith) in
      let b = position_found n S c p h (omega arith) hi in
      let ra = ap (row rows') (sym a.4) ∙ member_row a.0 c a.1 a.2 a.3 in
      let rb = ap (row rows') (sym b.4) ∙ member_row b.0 c b.1 b.2 b.3 in
      elim (dec_lt a.0 b.0) [
        | yes k ↦ omega (arith, ra, rb)
        | no k ↦ absurd (elim (dec_lt b.0 a.0) [
          | yes m ↦ omega (arith, position_rises n S b.0 a.0 c b.1 m b.3, a.4, b.4)
          | no m ↦
              let e : a.0 ≡ b.0 = omega arith in
              omega (arith, ap (λ (r : ℕ). position n S r c) e, a.4, b.4)
        ])
      ]

  -- the filled lists are well formed
  pub filled_result : WellFormed starts rows' (length values')
  filled_result = record {
    some = omega (arith, entry_starts-length n S);
    column = λ c h.
        let l : c < n = omega (arith, dimension_is) in
        let s = start_is c (omega arith) in
        let e = start_is (c + 1) (omega arith) in
        let m = column_count_mono n S c (c + 1) (omega arith) in
        let t = column_count_mono n S (c + 1) n (omega arith) in
        record {
          ordered = omega arith;
          stored = omega (arith, rows_long);
          weighed = omega (arith, values_long);
          ascends = λ q p lo k hi. ascending c l q p (omega arith) k (omega arith);
        };
  }

  -- a diagonal of the set stands first in its column, and its lookup looks at one place
  pub filled-looks : (c : ℕ) → c < n → S c c ≡ true → lookup_looks starts rows' (length values') c c ≡ 1
  filled-looks c l t =
      let s = start_is c (omega arith) in
      let e = start_is (c + 1) (omega arith) in
      let q = position_first n S c in
      diagonal_looks starts rows' (length values') filled_result c (omega (arith, dimension_is)) (omega (arith, position_in n S c c (le_refl c) l t))
      (ap (row rows') (s ∙ sym q) ∙ member_row c c (le_refl c) l t)

  module _ (r c : ℕ) (h : c ≤ r) (l : r < n) where
    read_member : S r c ≡ true → lookup_of blank starts rows' values' r c ≡ answered (Z r c)
    read_member t =
        let s = start_is c (omega arith) in
        let e = start_is (c + 1) (omega arith) in
        lookup_at blank starts rows' values' filled_result r c h (omega (arith, dimension_is)) (position n S r c) (record {
          from = omega arith;
          below = omega (arith, position_in n S r c h l t);
          there = member_row r c h l t;
        })
        ∙ ap (λ (v : A). answered v) (member_value r c h l t)

    read_other : S r c ≡ false → lookup_of blank starts rows' values' r c ≡ refused 8
    read_other t =
        let s = start_is c (omega arith) in
        let e = start_is (c + 1) (omega arith) in
        lookup_absent blank starts rows' values' filled_result r c h (omega (arith, dimension_is)) (λ p at_p.
        let f = position_found n S c p (omega arith) (omega (arith, at_p.from)) (omega (arith, at_p.below)) in
        let same : f.0 ≡ r = sym (member_row f.0 c f.1 f.2 f.3) ∙ ap (row rows') f.4 ∙ at_p.there in
        let t' : S r c ≡ true = ap (λ (x : ℕ). S x c) (sym same) ∙ f.3 in
        let z : ◌≡◌ {A = ℕ} 0 1 = cc in
        omega arith)

    read_inside : (b : Bool) → S r c ≡ b → lookup_of blank starts rows' values' r c ≡ cond b (answered (Z r c)) (refused 8)
    read_inside true t = read_member t
    read_inside false t = read_other t

  -- the lookup in the filled lists
  pub lookup-filled : (row col : ℕ) → lookup_of blank starts rows' values' row col ≡ read_back n S Z row col
  lookup-filled row col = elim (dec_lt (max row col) n) [
    | yes l ↦
        sym (lookup_ordered blank starts rows' values' (max row col) (min row col) (omega arith))
        ∙ read_inside (max row col) (min row col) (omega arith) l (S (max row col) (min row col)) refl
        ∙ ap (λ (b : Bool). cond (b && S (max row col) (min row col)) (answered (at Z row col)) (refused 8)) (sym (lt-ltb _ _ l))
    | no l ↦
        lookup-outside blank starts rows' values' filled_result row col (omega (arith, dimension_is))
        ∙ ap (λ (b : Bool). cond (b && S (max row col) (min row col)) (answered (at Z row col)) (refused 8)) (sym (le-ltb (max row col) n (omega arith)))
  ]

-- ---- the lists that a call within the limit leaves
module _ {A : Type 0} (blank : A) (f : Filling A) (lent : LentOf A) (rows_fit : set_size f.n f.set ≤ length lent.result_rows)
    (values_fit : set_size f.n f.set ≤ length lent.result_values) (steps : List Step) (passed : Passed steps) {leaving : List Step} {left : LentOf A}
    (L : ListsAfter steps leaving f lent left) (complete : f.complete ≡ true) where
  -- a fact of the set's lists is one of them
  left_are : (Q : List ℕ → List ℕ → List A → Type 0)
      → Q (entry_starts f.n f.set) (overwrite (entry_rows f.n f.set) lent.result_rows) (overwrite (entry_values f.n f.set f.table) lent.result_values)
      → Q (take (f.n + 1) left.result_starts) left.result_rows left.result_values
  left_are Q q =
      subst (λ (l : List ℕ). Q l left.result_rows left.result_values)
      (sym (ap (take (f.n + 1)) (passed_starts steps f lent passed L) ∙ front_starts f lent complete))
      (subst (λ (l : List ℕ). Q (entry_starts f.n f.set) l left.result_values) (sym (complete_rows steps f lent passed L complete))
      (subst (Q (entry_starts f.n f.set) (overwrite (entry_rows f.n f.set) lent.result_rows)) (sym (complete_values steps f lent passed L complete)) q))

  -- they are well formed
  pub result_left : WellFormed (take (f.n + 1) left.result_starts) left.result_rows (length left.result_values)
  result_left =
      left_are (λ s r v. WellFormed s r (length v))
      (filled_result f.n f.set f.table blank lent.result_rows lent.result_values rows_fit values_fit)

  -- and the lookup in them finds the set's entries, and no other
  pub lookup_left : (row col : ℕ)
      → lookup_of blank (take (f.n + 1) left.result_starts) left.result_rows left.result_values row col ≡ read_back f.n f.set f.table row col
  lookup_left row col =
      left_are (λ s r v. lookup_of blank s r v row col ≡ read_back f.n f.set f.table row col)
      (lookup-filled f.n f.set f.table blank lent.result_rows lent.result_values rows_fit values_fit row col)

  -- a diagonal of the set at the first place that the search looks at
  pub looks_left : (c : ℕ) → c < f.n → f.set c c ≡ true → lookup_looks (take (f.n + 1) left.result_starts) left.result_rows (length left.result_values) c c ≡ 1
  looks_left c l t =
      left_are (λ s r v. lookup_looks s r (length v) c c ≡ 1)
      (filled-looks f.n f.set f.table blank lent.result_rows lent.result_values rows_fit values_fit c l t)
