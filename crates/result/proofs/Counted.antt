-- Laws of specs/Counted.antt.
use Prim.Native.Nat.{ℕ, ◌+◌, ◌-◌, ◌*◌, ◌≤◌, ◌<◌, max, min}
use Rattle.std.proofs.Common.{arith, le_refl, add-zero, ap₂, ◌∙◌, length-drop, length-take-le, get_or-take, get_or-drop}
use Rattle.std.proofs.Math.Nat.{max-eq_left, max-eq_right, min-eq_left, min-eq_right}
use Rattle.std.specs.Prelude.{◌≡◌, Bool, true, false, List, [], ◌∷◌, length, take, drop}
use Rattle.std.proofs.Math.Path.{ap}
use Rattle.std.proofs.Math.ListN.{length-take}
use Rattle.refusal.specs.Steps.{Step, Passed, decide, verdict, refused, first, settle}
use Rattle.columns.specs.Columns.{start, row}
use Rattle.result.specs.Digits.{binary_digits}
use Rattle.result.proofs.Digits.{digits_below}
use Rattle.result.specs.Looks.{looks}
use Rattle.result.proofs.Looks.{looks_first, looks_bounded}
use Rattle.result.specs.Lookup.{dimension, column_faults, search_steps, WellFormed}
use Rattle.result.proofs.Laws.{column_faults_passed, search_none, search_outside, search_broken, search_row, search_passed}
use Rattle.result.specs.Counted.{column_rows, entry_looks, lookup_looks}

-- what is settled for 0, or is at most b
settled : (steps : List Step) (x b : ℕ) → x ≤ b → settle 0 (first steps x) ≤ b
unfolding first
settled [] x b h = h
settled (s ∷ steps) x b h = of s.1 (settled steps x b h)
  where
    of : (t : Bool) → settle 0 (first steps x) ≤ b → settle 0 (decide t s.0 (first steps x)) ≤ b
    of true h = omega arith
    of false h = h

module _ (starts rows : List ℕ) (values : ℕ) where
  pub looks_ordered : (row col : ℕ) → col ≤ row → lookup_looks starts rows values row col ≡ entry_looks starts rows values row col
  looks_ordered row col h = ap₂ (entry_looks starts rows values) (max-eq_left h) (min-eq_right h)

  pub looks-exchanged : (row col : ℕ) → row ≤ col → lookup_looks starts rows values row col ≡ entry_looks starts rows values col row
  looks-exchanged row col h = ap₂ (entry_looks starts rows values) (max-eq_right h) (min-eq_left h)

  -- step by step: no starts, a column outside, a broken column, a row outside
  module _ (r c : ℕ) where
    pub entry_looks_none : length starts ≡ 0 → entry_looks starts rows values r c ≡ 0
    unfolding entry_looks
    entry_looks_none e = ap (settle 0) (search_none starts rows values r c _ e)

    pub entry_looks-outside : 0 < length starts → dimension starts ≤ c → entry_looks starts rows values r c ≡ 0
    unfolding entry_looks
    entry_looks-outside some out = ap (settle 0) (search_outside starts rows values r c _ some out)

    module _ (some : 0 < length starts) (inside : c < dimension starts) where
      pub entry_looks_broken : (k : ℕ) → verdict (column_faults starts rows values c) ≡ refused k → entry_looks starts rows values r c ≡ 0
      unfolding entry_looks
      entry_looks_broken k e = ap (settle 0) (search_broken starts rows values r c _ some inside k e)

      pub entry_looks_row : Passed (column_faults starts rows values c) → dimension starts ≤ r → entry_looks starts rows values r c ≡ 0
      unfolding entry_looks
      entry_looks_row passed out = ap (settle 0) (search_row starts rows values r c _ some inside passed out)

      -- else those of the column search
      pub entry_looks_searched : Passed (column_faults starts rows values c) → r < dimension starts → entry_looks starts rows values r c ≡ looks (column_rows starts rows c) r
      unfolding entry_looks
      entry_looks_searched passed below = ap (settle 0) (search_passed starts rows values r c _ some inside passed below)

  module _ (W : WellFormed starts rows values) where
    -- in a well-formed result a diagonal that stands first in its column takes one look
    pub diagonal_looks : (c : ℕ) → c < dimension starts → start starts c < start starts (c + 1) → row rows (start starts c) ≡ c → lookup_looks starts rows values c c ≡ 1
    diagonal_looks c l h e =
        let C = W.column c l in
        let s = start starts c in
        let m = start starts (c + 1) - s in
        let n : length (take m (drop s rows)) ≡ m = length-take-le m (drop s rows) (simp length-drop (omega (arith, C.stored))) in
        looks_ordered c c (le_refl c)
        ∙ entry_looks_searched c c W.some l (column_faults_passed starts rows values c C) l
        ∙ looks_first (column_rows starts rows c) c (omega (arith, n, h)) (get_or-take m (drop s rows) 0 0 (omega arith) ∙ get_or-drop s rows 0 0 ∙ ap (row rows) (add-zero s) ∙ e)

  -- whatever the lists are, no lookup looks more than twice the binary digits of its column's number of rows
  pub lookup-looks : (row col : ℕ) → let c = min row col in lookup_looks starts rows values row col ≤ 2 * binary_digits (start starts (c + 1) - start starts c)
  unfolding entry_looks
  lookup-looks row col =
      let c = min row col in
      let m = start starts (c + 1) - start starts c in
      settled (search_steps starts rows values (max row col) c) (looks (column_rows starts rows c) (max row col)) (2 * binary_digits m)
      (looks_bounded (binary_digits m) (column_rows starts rows c) (max row col) (omega (arith, length-take m (drop (start starts c) rows), digits_below m)))
