-- Laws of specs/ExactEntries.antt.
use Rattle.std.specs.Prelude.{ℕ, suc, ◌≤◌, ◌<◌, max, min, ◌≡◌, refl, List, ℤ, pos, ◌*ℤ◌, Float}
use Rattle.std.proofs.Common.{sym, subst, ◌∙◌, lit≤}
use Rattle.refusal.specs.Steps.{Step, Passed}
use Rattle.columns.specs.Form.{Form, cholesky, pivoted, divisor}
use Rattle.closed_set.proofs.ClosedSet.{needed_range}
use Rattle.integers.proofs.Integer.{*ℤ-idl, *ℤ-idr}
use Rattle.integers.specs.Matrix.{Matrix}
use Rattle.integers.specs.Inverse.{WholeInverse}
use Rattle.takahashi.specs.Entries.{Entry, Ascend}
use Rattle.takahashi.specs.Recurrence.{at, RecurrenceClosed}
use Rattle.exact.specs.Multiple.{Whole}
use Rattle.exact.specs.Factor.{factor}
use Rattle.exact.specs.ExactCase.{ones, unit_table}
use Rattle.exact.proofs.ExactCase.{whole_inverse, unit_recurs, unit_bounded, unit_has_inverse, unit_symmetric, unit_ordered}
use Rattle.exact.proofs.PivotMultiples.{unit_pivot_recurs, unit_pivot_bounded, whole_pivot_inverse}
use Rattle.selection.specs.Selection.{Selection, selected_pattern, filling_of, Lent, room_of, Accepted, selected_table, ResultLists}
use Rattle.selection.specs.Call.{Call, selection_of, selected_steps}
use Rattle.selection.proofs.Call.{accepted}
use Rattle.exact_entries.specs.Recurrence.{InClosedSet}
use Rattle.exact_entries.proofs.Recurrence.{selected_pattern_lem, reads_recurrence}
use Rattle.exact_entries.specs.DyadicEntries.{DyadicCall}
use Rattle.exact_entries.proofs.DyadicEntries.{multipliers_ascend, multipliers_closed, dyadic_at}
use Rattle.exact_entries.specs.PivotEntries.{DyadicPivots}
use Rattle.exact_entries.proofs.PivotEntries.{pivots_at}
use Rattle.exact_entries.specs.ExactEntries.{ExactCall, ReadsBack}

-- ---- an accepted selection in the exact case
module _ (x : Selection) (lent : Lent) (A : Accepted x (room_of lent)) (whole : ℕ → List (Entry ℤ)) (E : ExactCall x whole) where
  ascend : (j : ℕ) → j < x.factor.n → Ascend x.factor.n (suc j) (whole j)
  ascend = multipliers_ascend x lent A 0 whole E.entries

  closed : RecurrenceClosed x.factor.n whole (InClosedSet x)
  closed = multipliers_closed x lent A 0 whole E.entries

  abbrev z : Matrix
  z = unit_table x.factor.n whole

  ones-of : {f : Form} → x.form ≡ f → (j : ℕ) → j < x.factor.n → Whole (divisor x.factor.n x.factor.starts x.factor.rows x.factor.values f j) (pos 1)
  ones-of e =
      subst
      (λ (f : Form). (j : ℕ) → j < x.factor.n → Whole (divisor x.factor.n x.factor.starts x.factor.rows x.factor.values f j) (pos 1))
      e E.diagonals

  -- of L * Lᵀ, whole numbers with diagonals of 1 are the multiples of 2 ^ -s with s = 0
  pub exact_dyadic : x.form ≡ cholesky → DyadicCall x 0 ones whole z
  exact_dyadic e = record {
    form_is = e;
    scale = lit≤ tt;
    diagonals = ones-of e;
    entries = E.entries;
    recurs = unit_recurs x.factor.n whole ascend (InClosedSet x) closed;
    bounded = unit_bounded x.factor.n whole (InClosedSet x) E.within;
  }

  -- and so they are with pivots of 1
  pub exact_pivots : {pivots : List Float} → x.form ≡ pivoted pivots → DyadicPivots x pivots 0 ones whole z
  exact_pivots e = record {
    form_is = e;
    scale = lit≤ tt;
    pivots_are = ones-of e;
    entries = E.entries;
    recurs = unit_pivot_recurs x.factor.n whole ascend (InClosedSet x) closed;
    bounded = unit_pivot_bounded x.factor.n whole (InClosedSet x) E.within;
  }

  -- L * Lᵀ has an inverse in whole numbers
  pub exact_inverse : (X : Matrix) × WholeInverse x.factor.n (factor ones whole) X
  exact_inverse = unit_has_inverse x.factor.n whole ascend

  module _ (X : Matrix) (is : WholeInverse x.factor.n (factor ones whole) X) where
    -- the multiplier of an entry is X's
    same : (v : Float) (m k : ℤ) → Whole v m × (m *ℤ pos 1 ≡ pos 1 *ℤ k) → Whole v k
    same v m k both = subst (Whole v) (sym (*ℤ-idr m) ∙ both.1 ∙ *ℤ-idl k) both.0

    -- an entry of the set is X's, of L * Lᵀ and where pivots are given
    at_form : (f : Form) → x.form ≡ f → (i j : ℕ) → InClosedSet x i j → Whole (selected_table x i j) (X i j)
    at_form cholesky e i j p =
        same (selected_table x i j) (z i j) (X i j)
        (dyadic_at x lent A 0 ones whole z (exact_dyadic e) X 1 (whole_inverse x.factor.n (factor ones whole) X is) i j p)
    at_form (pivoted pivots) e i j p =
        same (selected_table x i j) (z i j) (X i j)
        (pivots_at x lent A pivots 0 ones whole z (exact_pivots e) X 1 (whole_pivot_inverse x.factor.n (factor ones whole) X is) i j p)

    pub exact_at : (i j : ℕ) → InClosedSet x i j → Whole (selected_table x i j) (X i j)
    exact_at = at_form x.form refl

    -- X is symmetric
    pub exact_symmetric : (i j : ℕ) → i < x.factor.n → j < x.factor.n → X i j ≡ X j i
    exact_symmetric = unit_symmetric x.factor.n whole ascend X is

    -- read at either order of the indices
    pub exact_either : (row col : ℕ) → InClosedSet x (max row col) (min row col) → Whole (at (selected_table x) row col) (X row col)
    exact_either row col p =
        subst (Whole (at (selected_table x) row col)) (unit_ordered x.factor.n whole ascend X is row col (needed_range (selected_pattern x) x.requests x.factor.n (selected_pattern_lem x lent A) A.requests p).1)
        (exact_at (max row col) (min row col) p)

    -- the exact case of every call that fills result lists: X, any inverse of L * Lᵀ, is what reads back
    pub exact_entries : (steps : List Step) → Passed steps → {left : Lent} → ResultLists steps (filling_of x) lent left
        → ReadsBack x left X
    exact_entries steps passed L =
        let R = reads_recurrence x lent A steps passed L in
        record {
          complete = R.complete;
          members = λ e row col p. (at (selected_table x) row col, R.members e row col p, exact_either row col p);
          others = R.others;
        }

-- ---- selected entries, with any limit: demand 3
module _ (x : Call) (lent : Lent) (passed : Passed (selected_steps x (room_of lent))) (whole : ℕ → List (Entry ℤ)) (E : ExactCall (selection_of x) whole) where
  pub exact_call : (X : Matrix) → WholeInverse x.factor.n (factor ones whole) X → {left : Lent}
      → ResultLists (selected_steps x (room_of lent)) (filling_of (selection_of x)) lent left → ReadsBack (selection_of x) left X
  exact_call X is L =
      exact_entries (selection_of x) lent (accepted x (room_of lent) passed) whole E X is (selected_steps x (room_of lent)) passed L
