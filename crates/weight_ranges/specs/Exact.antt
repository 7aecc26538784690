-- Bounds over the result of a Complete call in whole numbers: they bound vᵀXv of the exact inverse X. `whole_reply_lem` of whole_selection gives `ReadsWhole`.
-- Assumes nothing.
use Rattle.std.specs.Prelude.{ℕ, ◌+◌, List, take, ℤ}
use Rattle.selection.specs.Selection.{LentOf}
use Rattle.whole_selection.specs.Call.{WholeCall}
use Rattle.weight_ranges.specs.Promise.{BoundsAnswered}

-- the lists that the call left, the starts in their length
abbrev pub BoundsAfter : WholeCall → LentOf ℤ → List ℕ → List ℤ → List ℤ → ℤ → ℤ → Type 0
BoundsAfter x left = BoundsAnswered (take (x.factor.n + 1) left.result_starts) left.result_rows left.result_values
