-- Laws of specs/DyadicEntries.antt.
use Rattle.std.specs.Prelude.{ℕ, suc, ◌^◌, ◌≤◌, ◌<◌, max, min, ◌≡◌, refl, false, ◌≢◌, List, T, ℤ, pos, ◌*ℤ◌, Float}
use Rattle.std.proofs.Common.{le_trans, ap, subst, ◌∙◌, lit≤}
use Rattle.std.specs.Float.Ieee.{of_bits, le, lt, eq}
use Rattle.lists.specs.Test.{or_neither_right}
use Rattle.refusal.specs.Steps.{Step, Passed}
use Rattle.columns.specs.Kept.{f0, nonzero, entry, diag, desc}
use Rattle.columns.specs.Diagonal.{Diagonals}
use Rattle.columns.specs.Form.{Divisors}
use Rattle.closed_set.proofs.ClosedSet.{needed_range}
use Rattle.integers.specs.Matrix.{Matrix}
use Rattle.integers.specs.Inverse.{Inverse}
use Rattle.takahashi.specs.Entries.{Entry, Ascend}
use Rattle.takahashi.specs.Recurrence.{at, RecurrenceClosed}
use Rattle.exact.specs.Multiple.{Multiple}
use Rattle.exact.proofs.Multiple.{multiple_zero, multiple_eq}
use Rattle.exact.specs.Exact.{Alike}
use Rattle.exact.specs.Factor.{factor}
use Rattle.exact.proofs.ExactCase.{has_inverse, multiples_ordered, dyadic}
use Rattle.selection.specs.Selection.{Selection, selected_pattern, filling_of, Lent, room_of, Accepted, selected_table, ResultLists}
use Rattle.selection.specs.Call.{Call, selection_of, selected_steps}
use Rattle.selection.proofs.Call.{accepted}
use Rattle.entries.proofs.Descendants.{desc-ascend}
use Rattle.exact_entries.proofs.Columns.{places_descend, alike_ascend, alike_each, needed_closed}
use Rattle.exact_entries.specs.Recurrence.{InClosedSet}
use Rattle.exact_entries.proofs.Recurrence.{selected_pattern_lem, table_recurs_as, reads_recurrence}
use Rattle.exact_entries.specs.DyadicEntries.{DyadicCall, ReadsMultiples}

-- a multiple of 2 ^ -s that is not at most 0.0 has a multiplier other than 0
pub multiplier_nonzero : (s : ℕ) (v : Float) (m : ℤ) → Multiple s v m → le v f0 ≡ false → m ≢ pos 0
unfolding le of_bits
multiplier_nonzero s v m p e q =
    subst T (or_neither_right (lt v f0) (eq v f0) e) (multiple_eq s v f0 (pos 0) (subst (Multiple s v) q p) (multiple_zero s))

-- ---- an accepted selection, and multipliers of its factor's entries below the diagonal
module _ (x : Selection) (lent : Lent) (A : Accepted x (room_of lent)) (s : ℕ) (l : ℕ → List (Entry ℤ))
    (alike : (j : ℕ) → j < x.factor.n → Alike s (desc x.factor.starts x.factor.rows x.factor.values j) (l j)) where
  pub multipliers_ascend : (j : ℕ) → j < x.factor.n → Ascend x.factor.n (suc j) (l j)
  multipliers_ascend j jn =
      alike_ascend s x.factor.n (suc j) (desc x.factor.starts x.factor.rows x.factor.values j) (l j) (alike j jn)
      (desc-ascend x.factor.values A.factor j jn)

  pub multipliers_closed : RecurrenceClosed x.factor.n l (InClosedSet x)
  multipliers_closed =
      needed_closed x.factor.n (selected_pattern x) x.requests (selected_pattern_lem x lent A) A.requests l multipliers_ascend
      (λ j jn.
      alike_each s _ (desc x.factor.starts x.factor.rows x.factor.values j) (l j) (alike j jn)
      (places_descend (entry x.factor.rows x.factor.values) (nonzero x.factor.values) A.factor (λ p. refl) j jn))

-- ---- an accepted selection where every exact step is such a multiple
module _ (x : Selection) (lent : Lent) (A : Accepted x (room_of lent)) (s : ℕ) (d : ℕ → ℤ) (l : ℕ → List (Entry ℤ)) (z : Matrix)
    (E : DyadicCall x s d l z) where
  ascend : (j : ℕ) → j < x.factor.n → Ascend x.factor.n (suc j) (l j)
  ascend = multipliers_ascend x lent A s l E.entries

  kept : Diagonals x.factor.n x.factor.starts x.factor.rows x.factor.values
  kept = subst (Divisors x.factor.n x.factor.starts x.factor.rows x.factor.values) E.form_is A.diagonals

  nonzero_diagonal : (j : ℕ) → j < x.factor.n → d j ≢ pos 0
  nonzero_diagonal j jn =
      multiplier_nonzero s (diag x.factor.starts x.factor.rows x.factor.values j) (d j) (E.diagonals j jn) (kept.positive j jn)

  -- L * Lᵀ has an inverse P / Q
  pub dyadic_inverse : (P : Matrix) × (Q : ℕ) × Inverse x.factor.n (pos (2 ^ s)) (factor d l) P Q
  dyadic_inverse = has_inverse s x.factor.n d l nonzero_diagonal ascend

  module _ (P : Matrix) (Q : ℕ) (is : Inverse x.factor.n (pos (2 ^ s)) (factor d l) P Q) where
    -- an entry of the set is z / 2 ^ s, and so is P / Q
    pub dyadic_at : (i j : ℕ) → InClosedSet x i j → Multiple s (selected_table x i j) (z i j) × (z i j *ℤ pos Q ≡ pos (2 ^ s) *ℤ P i j)
    dyadic_at =
        dyadic s x.factor.n d l nonzero_diagonal ascend (le_trans E.scale (lit≤ tt)) (InClosedSet x) (multipliers_closed x lent A s l E.entries) z
        E.recurs E.bounded (diag x.factor.starts x.factor.rows x.factor.values) (desc x.factor.starts x.factor.rows x.factor.values)
        E.diagonals E.entries (selected_table x) (table_recurs_as x lent A E.form_is) P Q is

    -- read at either order of the indices
    pub dyadic_either : (row col : ℕ) → InClosedSet x (max row col) (min row col)
        → Multiple s (at (selected_table x) row col) (at z row col) × (at z row col *ℤ pos Q ≡ pos (2 ^ s) *ℤ P row col)
    dyadic_either row col p =
        let both = dyadic_at (max row col) (min row col) p in
        let range = needed_range (selected_pattern x) x.requests x.factor.n (selected_pattern_lem x lent A) A.requests p in
        (both.0, both.1 ∙ ap (λ (m : ℤ). pos (2 ^ s) *ℤ m) (multiples_ordered s x.factor.n d l nonzero_diagonal ascend P Q is row col range.1))

    -- of every call that fills result lists: P / Q, any inverse of L * Lᵀ, is what reads back
    pub dyadic_entries : (steps : List Step) → Passed steps → {left : Lent} → ResultLists steps (filling_of x) lent left → ReadsMultiples x left s z P Q
    dyadic_entries steps passed L =
        let R = reads_recurrence x lent A steps passed L in
        record {
          complete = R.complete;
          members = λ e row col p.
              let both = dyadic_either row col p in
              (at (selected_table x) row col, R.members e row col p, both.0, both.1);
          others = R.others;
        }

-- ---- selected entries, with any limit
module _ (x : Call) (lent : Lent) (passed : Passed (selected_steps x (room_of lent))) (s : ℕ) (d : ℕ → ℤ) (l : ℕ → List (Entry ℤ)) (z : Matrix)
    (E : DyadicCall (selection_of x) s d l z) where
  pub dyadic_call : (P : Matrix) (Q : ℕ) → Inverse x.factor.n (pos (2 ^ s)) (factor d l) P Q → {left : Lent}
      → ResultLists (selected_steps x (room_of lent)) (filling_of (selection_of x)) lent left → ReadsMultiples (selection_of x) left s z P Q
  dyadic_call P Q is L =
      dyadic_entries (selection_of x) lent (accepted x (room_of lent) passed) s d l z E P Q is (selected_steps x (room_of lent)) passed L
