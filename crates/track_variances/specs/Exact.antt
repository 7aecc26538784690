-- Variances over the result of a Complete call in whole numbers: each place of the output is the sum of the exact inverse's entries at the cells of its run.
-- `whole_reply_lem` of whole_selection gives `ReadsWhole`. Assumes nothing.
use Rattle.std.specs.Prelude.{ℕ, ◌+◌, List, take, ℤ}
use Rattle.refusal.specs.Steps.{answered}
use Rattle.selection.specs.Selection.{LentOf}
use Rattle.whole_selection.specs.Call.{WholeCall}
use Rattle.track_variances.specs.Track.{VariancesAlong}

-- the call over the lists that the whole-number call left, the starts in their length, is accepted
abbrev pub AlongAfter : WholeCall → LentOf ℤ → List ℕ → ℕ → List ℤ → List ℤ → Type 0
AlongAfter x lists track width output left =
    VariancesAlong (take (x.factor.n + 1) lists.result_starts) lists.result_rows lists.result_values track width output (answered tt) left
