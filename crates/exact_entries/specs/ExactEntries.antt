-- The exact case, from a call's inputs to what a lookup returns: whole numbers with diagonals of 1, or pivots of 1, which are the
-- multiples of 2 ^ -s with s = 0.
-- Assumes nothing.
use Rattle.std.specs.Prelude.{ℕ, ◌≤◌, ◌<◌, max, min, ◌≡◌, ◌↔◌, List, ℤ, pos, Float}
use Rattle.refusal.specs.Steps.{refused, answered}
use Rattle.columns.specs.Kept.{desc}
use Rattle.columns.specs.Form.{divisor}
use Rattle.integers.specs.Matrix.{Matrix}
use Rattle.takahashi.specs.Entries.{Entry}
use Rattle.exact.specs.Multiple.{Whole}
use Rattle.exact.specs.Exact.{Alike}
use Rattle.exact.specs.Factor.{factor}
use Rattle.exact.specs.ExactCase.{WithinBound}
use Rattle.diagnostics.specs.declared.SelectedInverseStatus.TheVariants.{Complete}
use Rattle.selection.specs.Selection.{Selection, Lent, selected_size, selected_answer}
use Rattle.exact_entries.specs.Recurrence.{InClosedSet, found}

module _ (x : Selection) where
  -- every kept diagonal of L is 1, or, where pivots are given, every pivot is; the other kept entries are the whole numbers `whole`; and no product, sum or
  -- entry of the exact recurrence over the closed set is beyond 2 ^ 53
  pub record ExactCall (whole : ℕ → List (Entry ℤ)) : Type 0 where
    pub diagonals : (j : ℕ) → j < x.factor.n → Whole (divisor x.factor.n x.factor.starts x.factor.rows x.factor.values x.form j) (pos 1)
    pub entries : (j : ℕ) → j < x.factor.n → Alike 0 (desc x.factor.starts x.factor.rows x.factor.values j) (whole j)
    pub within : WithinBound x.factor.n whole (InClosedSet x)

  -- X is what reads back: Complete exactly when the set is within the limit; then each pair of the set as a number equal to X's, every other pair as absent
  pub record ReadsBack (left : Lent) (X : Matrix) : Type 0 where
    pub complete : ((selected_answer x).status ≡ Complete) ↔ (selected_size x ≤ x.limit)
    pub members : (selected_answer x).status ≡ Complete → (row col : ℕ) → InClosedSet x (max row col) (min row col)
        → (v : Float) × (found x left row col ≡ answered v) × Whole v (X row col)
    pub others : (selected_answer x).status ≡ Complete → (row col : ℕ) → (InClosedSet x (max row col) (min row col) → ⊥)
        → found x left row col ≡ refused 8
