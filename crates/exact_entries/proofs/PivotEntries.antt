-- Laws of specs/PivotEntries.antt.
use Rattle.std.specs.Prelude.{ℕ, suc, ◌^◌, ◌≤◌, ◌<◌, max, min, ◌≡◌, ◌≢◌, List, ℤ, pos, ◌*ℤ◌, Float}
use Rattle.std.proofs.Common.{le_trans, ap, subst, ◌∙◌, lit≤}
use Rattle.refusal.specs.Steps.{Step, Passed}
use Rattle.columns.specs.Columns.{value}
use Rattle.columns.specs.Kept.{desc}
use Rattle.columns.specs.Form.{Divisors, Pivots}
use Rattle.closed_set.proofs.ClosedSet.{needed_range}
use Rattle.integers.specs.Matrix.{Matrix}
use Rattle.integers.specs.PivotInverse.{PivotInverse}
use Rattle.takahashi.specs.Entries.{Entry, Ascend}
use Rattle.takahashi.specs.Recurrence.{at}
use Rattle.exact.specs.Multiple.{Multiple}
use Rattle.exact.specs.Factor.{factor}
use Rattle.exact.proofs.PivotMultiples.{has_pivot_inverse, pivots_ordered, pivot_dyadic}
use Rattle.selection.specs.Selection.{Selection, selected_pattern, filling_of, Lent, room_of, Accepted, selected_table, ResultLists}
use Rattle.exact_entries.specs.Recurrence.{InClosedSet}
use Rattle.exact_entries.proofs.Recurrence.{selected_pattern_lem, table_recurs_as, reads_recurrence}
use Rattle.exact_entries.specs.DyadicEntries.{ReadsMultiples}
use Rattle.exact_entries.proofs.DyadicEntries.{multiplier_nonzero, multipliers_ascend, multipliers_closed}
use Rattle.exact_entries.specs.PivotEntries.{DyadicPivots}

-- ---- an accepted selection where every exact step is such a multiple
module _ (x : Selection) (lent : Lent) (A : Accepted x (room_of lent)) (pivots : List Float) (s : ℕ) (w : ℕ → ℤ) (l : ℕ → List (Entry ℤ)) (z : Matrix)
    (E : DyadicPivots x pivots s w l z) where
  ascend : (j : ℕ) → j < x.factor.n → Ascend x.factor.n (suc j) (l j)
  ascend = multipliers_ascend x lent A s l E.entries

  given : Pivots x.factor.n pivots
  given = subst (Divisors x.factor.n x.factor.starts x.factor.rows x.factor.values) E.form_is A.diagonals

  nonzero_pivot : (j : ℕ) → j < x.factor.n → w j ≢ pos 0
  nonzero_pivot j jn = multiplier_nonzero s (value pivots j) (w j) (E.pivots_are j jn) (given.positive j jn)

  -- L * D * Lᵀ has an inverse P / Q
  pub pivots_inverse : (P : Matrix) × (Q : ℕ) × PivotInverse x.factor.n (pos (2 ^ s)) w (factor (λ j. pos (2 ^ s)) l) P Q
  pivots_inverse = has_pivot_inverse s x.factor.n w l nonzero_pivot ascend

  module _ (P : Matrix) (Q : ℕ) (is : PivotInverse x.factor.n (pos (2 ^ s)) w (factor (λ j. pos (2 ^ s)) l) P Q) where
    -- an entry of the set is z / 2 ^ s, and so is P / Q
    pub pivots_at : (i j : ℕ) → InClosedSet x i j → Multiple s (selected_table x i j) (z i j) × (z i j *ℤ pos Q ≡ pos (2 ^ s) *ℤ P i j)
    pivots_at =
        pivot_dyadic s x.factor.n w l nonzero_pivot ascend P Q is (le_trans E.scale (lit≤ tt)) (InClosedSet x)
        (multipliers_closed x lent A s l E.entries) z E.recurs E.bounded (value pivots) (desc x.factor.starts x.factor.rows x.factor.values)
        E.pivots_are E.entries (selected_table x) (table_recurs_as x lent A E.form_is)

    -- read at either order of the indices
    pub pivots_either : (row col : ℕ) → InClosedSet x (max row col) (min row col)
        → Multiple s (at (selected_table x) row col) (at z row col) × (at z row col *ℤ pos Q ≡ pos (2 ^ s) *ℤ P row col)
    pivots_either row col p =
        let both = pivots_at (max row col) (min row col) p in
        let range = needed_range (selected_pattern x) x.requests x.factor.n (selected_pattern_lem x lent A) A.requests p in
        (both.0, both.1 ∙ ap (λ (m : ℤ). pos (2 ^ s) *ℤ m) (pivots_ordered s x.factor.n w l nonzero_pivot ascend P Q is row col range.1))

    -- of every call with pivots that fills result lists: P / Q, any inverse of L * D * Lᵀ, is what reads back
    pub pivots_entries : (steps : List Step) → Passed steps → {left : Lent} → ResultLists steps (filling_of x) lent left → ReadsMultiples x left s z P Q
    pivots_entries steps passed L =
        let R = reads_recurrence x lent A steps passed L in
        record {
          complete = R.complete;
          members = λ e row col p.
              let both = pivots_either row col p in
              (at (selected_table x) row col, R.members e row col p, both.0, both.1);
          others = R.others;
        }
