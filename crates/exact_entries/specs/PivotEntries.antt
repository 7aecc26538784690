-- The exact case of factors given as L, D, L transposed, from a call's inputs to what a lookup returns: the kept entries of L below its diagonal of ones and the
-- pivots are whole multiples of 2 ^ -s. What is claimed is `ReadsMultiples`, as of L * Lᵀ, with P / Q an inverse of L * D * Lᵀ.
-- Assumes nothing.
use Rattle.std.specs.Prelude.{ℕ, ◌^◌, ◌≤◌, ◌<◌, ◌≡◌, List, ℤ, pos, Float}
use Rattle.columns.specs.Columns.{value}
use Rattle.columns.specs.Kept.{desc}
use Rattle.columns.specs.Form.{pivoted}
use Rattle.integers.specs.Matrix.{Matrix}
use Rattle.takahashi.specs.Entries.{Entry}
use Rattle.exact.specs.Multiple.{Multiple}
use Rattle.exact.specs.Exact.{Alike}
use Rattle.exact.specs.Factor.{factor}
use Rattle.exact.specs.PivotMultiples.{PivotRecurs, PivotBounded}
use Rattle.selection.specs.Selection.{Selection}
use Rattle.exact_entries.specs.Recurrence.{InClosedSet}

-- for one s from 0 to 53: the factor is L of L * D * Lᵀ with these pivots, which are whole multiples of 2 ^ -s by `w`, as are the kept entries below L's diagonal
-- by `l`; `z` are the multipliers of the entries of the exact recurrence over the closed set; and every exact product, sum, quotient and entry of that recurrence
-- over the set is a whole multiple of 2 ^ -s too, with a multiplier of at most 2 ^ 53 in size
pub record DyadicPivots (x : Selection) (pivots : List Float) (s : ℕ) (w : ℕ → ℤ) (l : ℕ → List (Entry ℤ)) (z : Matrix) : Type 0 where
  pub form_is : x.form ≡ pivoted pivots
  pub scale : s ≤ 53
  pub pivots_are : (j : ℕ) → j < x.factor.n → Multiple s (value pivots j) (w j)
  pub entries : (j : ℕ) → j < x.factor.n → Alike s (desc x.factor.starts x.factor.rows x.factor.values j) (l j)
  pub recurs : PivotRecurs (pos (2 ^ s)) w l (InClosedSet x) z
  pub bounded : PivotBounded s w l (InClosedSet x) z
