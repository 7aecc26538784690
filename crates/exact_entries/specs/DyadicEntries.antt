-- The exact case beyond unit diagonals, from a call's inputs to what a lookup returns: factors L of L * Lᵀ whose kept entries are whole multiples of 2 ^ -s.
-- A number m / 2 ^ s is said by its multiplier m. Outside the set the inverse of L * Lᵀ may hold other fractions, so it is said as whole numbers P over one
-- common whole denominator Q.
-- Assumes nothing.
use Rattle.std.specs.Prelude.{ℕ, ◌^◌, ◌≤◌, ◌<◌, max, min, ◌≡◌, ◌↔◌, List, ℤ, pos, ◌*ℤ◌, Float}
use Rattle.refusal.specs.Steps.{refused, answered}
use Rattle.columns.specs.Kept.{diag, desc}
use Rattle.columns.specs.Form.{cholesky}
use Rattle.integers.specs.Matrix.{Matrix}
use Rattle.takahashi.specs.Entries.{Entry}
use Rattle.takahashi.specs.Recurrence.{at}
use Rattle.exact.specs.Multiple.{Multiple}
use Rattle.exact.specs.Exact.{Alike, Recurs, Bounded}
use Rattle.exact.specs.Factor.{factor}
use Rattle.diagnostics.specs.declared.SelectedInverseStatus.TheVariants.{Complete}
use Rattle.selection.specs.Selection.{Selection, Lent, selected_size, selected_answer}
use Rattle.exact_entries.specs.Recurrence.{InClosedSet, found}

module _ (x : Selection) where
  -- for one s from 0 to 53: the factor is L of L * Lᵀ and its kept entries are whole multiples of 2 ^ -s, `d` the multipliers of its diagonals and `l` those of
  -- the entries below them; `z` are those of the entries of the exact recurrence over the closed set; and every exact product, sum, quotient and entry of that
  -- recurrence over the set is a whole multiple of 2 ^ -s too, with a multiplier of at most 2 ^ 53 in size
  pub record DyadicCall (s : ℕ) (d : ℕ → ℤ) (l : ℕ → List (Entry ℤ)) (z : Matrix) : Type 0 where
    pub form_is : x.form ≡ cholesky
    pub scale : s ≤ 53
    pub diagonals : (j : ℕ) → j < x.factor.n → Multiple s (diag x.factor.starts x.factor.rows x.factor.values j) (d j)
    pub entries : (j : ℕ) → j < x.factor.n → Alike s (desc x.factor.starts x.factor.rows x.factor.values j) (l j)
    pub recurs : Recurs (pos (2 ^ s)) d l (InClosedSet x) z
    pub bounded : Bounded s d l (InClosedSet x) z

  -- P / Q is what reads back, by multipliers: Complete exactly when the set is within the limit; then each pair of the set as a number equal to z / 2 ^ s, where
  -- z * Q = 2 ^ s * P, and every other pair as absent
  pub record ReadsMultiples (left : Lent) (s : ℕ) (z P : Matrix) (Q : ℕ) : Type 0 where
    pub complete : ((selected_answer x).status ≡ Complete) ↔ (selected_size x ≤ x.limit)
    pub members : (selected_answer x).status ≡ Complete → (row col : ℕ) → InClosedSet x (max row col) (min row col)
        → (v : Float) × (found x left row col ≡ answered v) × Multiple s v (at z row col) × (at z row col *ℤ pos Q ≡ pos (2 ^ s) *ℤ P row col)
    pub others : (selected_answer x).status ≡ Complete → (row col : ℕ) → (InClosedSet x (max row col) (min row col) → ⊥)
        → found x left row col ≡ refused 8
