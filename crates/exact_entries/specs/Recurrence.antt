-- What a lookup returns after a call that fills result lists: Takahashi's recurrence, on every accepted factor, whose numbers are finite.
-- Assumes nothing.
use Rattle.std.specs.Prelude.{ℕ, ◌+◌, ◌≤◌, max, min, ◌≡◌, ◌↔◌, take, Float}
use Rattle.refusal.specs.Steps.{Reply, refused, answered}
use Rattle.columns.specs.Kept.{desc}
use Rattle.columns.specs.Form.{divisor}
use Rattle.closed_set.specs.ClosedSet.{Needed}
use Rattle.takahashi.specs.Recurrence.{at, Solves}
use Rattle.exact.specs.Exact.{floats}
use Rattle.diagnostics.specs.declared.SelectedInverseStatus.TheVariants.{Complete}
use Rattle.entries.specs.Entries.{below_step, diagonal_step}
use Rattle.result.specs.Lookup.{lookup}
use Rattle.selection.specs.Selection.{Selection, Lent, selected_size, selected_answer, selected_pattern}

module _ (x : Selection) where
  -- the closed set: the requested pairs and the dependencies of its pairs, and no other
  abbrev pub InClosedSet : ℕ → ℕ → Type 0
  InClosedSet = Needed (selected_pattern x) x.requests

  -- what a lookup finds in the filled starts, the rows and the values that are left
  abbrev pub found : Lent → ℕ → ℕ → Reply Float
  found left = lookup (take (x.factor.n + 1) left.result_starts) left.result_rows left.result_values

  -- the recurrence in f64 as equations between a table's own entries, on the closed set
  abbrev pub SolvesRecurrence : (ℕ → ℕ → Float) → Type 0
  SolvesRecurrence =
      Solves floats (below_step x.form) (diagonal_step x.form) (divisor x.factor.n x.factor.starts x.factor.rows x.factor.values x.form)
      (desc x.factor.starts x.factor.rows x.factor.values) InClosedSet

  -- a table that solves the recurrence is what reads back: Complete exactly when the set is within the limit; then each pair of the set as its entry, every
  -- other pair as absent
  pub record ReadsRecurrence (left : Lent) (table : ℕ → ℕ → Float) : Type 0 where
    pub solves : SolvesRecurrence table
    pub complete : ((selected_answer x).status ≡ Complete) ↔ (selected_size x ≤ x.limit)
    pub members : (selected_answer x).status ≡ Complete → (row col : ℕ) → InClosedSet (max row col) (min row col)
        → found left row col ≡ answered (at table row col)
    pub others : (selected_answer x).status ≡ Complete → (row col : ℕ) → (InClosedSet (max row col) (min row col) → ⊥)
        → found left row col ≡ refused 8
