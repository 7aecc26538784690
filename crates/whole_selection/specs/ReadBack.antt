-- What a lookup returns after a call in whole numbers: the entries of the inverse of L * Lᵀ, exact; and when 20 is told.
-- Assumes nothing.
use Rattle.std.specs.Prelude.{ℕ, ◌+◌, ◌≤◌, max, min, ◌≡◌, ◌↔◌, take, ℤ, pos}
use mathlib.Core.List.{List}
use Rattle.refusal.specs.Steps.{Reply, refused, answered}
use Rattle.columns.specs.WholeFactor.{whole_desc}
use Rattle.closed_set.specs.ClosedSet.{Needed}
use Rattle.integers.specs.Matrix.{Matrix}
use Rattle.takahashi.specs.Entries.{Entry}
use Rattle.exact.specs.Factor.{factor}
use Rattle.exact.specs.ExactCase.{ones, WithinBound}
use Rattle.entries.specs.WholeTable.{KeptSmall}
use Rattle.result.specs.Lookup.{lookup_of}
use Rattle.diagnostics.specs.declared.SelectedInverseStatus.TheVariants.{Complete}
use Rattle.selection.specs.Selection.{LentOf}
use Rattle.whole_selection.specs.Call.{WholeCall, whole_requests, whole_descendants, whole_size, whole_answer}

module _ (x : WholeCall) where
  -- the closed set: the requested pairs and the dependencies of its pairs, and no other
  abbrev pub InWholeSet : ℕ → ℕ → Type 0
  InWholeSet = Needed (whole_descendants x) (whole_requests x)

  -- what a lookup finds in the filled starts, the rows and the values that are left
  abbrev pub whole_found : LentOf ℤ → ℕ → ℕ → Reply ℤ
  whole_found left = lookup_of (pos 0) (take (x.factor.n + 1) left.result_starts) left.result_rows left.result_values

  -- the descendants with their values
  abbrev pub whole_entries : ℕ → List (Entry ℤ)
  whole_entries = whole_desc x.factor.starts x.factor.rows x.factor.values

  -- L: ones on the diagonal, and the kept entries below it
  abbrev pub whole_matrix : Matrix
  whole_matrix = factor ones whole_entries

  -- every kept entry, and every product, running sum and entry of the exact recurrence over the closed set, is at most 2 ^ 53 in size
  abbrev pub Within53 : Type 0
  Within53 = KeptSmall x.factor.n x.factor.starts x.factor.rows x.factor.values × WithinBound x.factor.n whole_entries InWholeSet

  -- X is what reads back: Complete exactly when the set is within the limit; then each pair of the set as X's entry, every other pair as absent
  pub record ReadsWhole (left : LentOf ℤ) (X : Matrix) : Type 0 where
    pub complete : ((whole_answer x).status ≡ Complete) ↔ (whole_size x ≤ x.limit)
    pub members : (whole_answer x).status ≡ Complete → (row col : ℕ) → InWholeSet (max row col) (min row col) → whole_found left row col ≡ answered (X row col)
    pub others : (whole_answer x).status ≡ Complete → (row col : ℕ) → (InWholeSet (max row col) (min row col) → ⊥) → whole_found left row col ≡ refused 8
