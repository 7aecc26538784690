-- Whenever the engine in whole numbers completes, the engine in f64 does for the same factor, requests and limit, and its entries are the same numbers.
-- Assumes nothing.
use Rattle.std.specs.Prelude.{ℕ, ◌+◌, ◌≡◌, List, map, take, ℤ, Float}
use Rattle.std.specs.Float.Ieee.{binary64, of_int}
use Rattle.refusal.specs.Steps.{Passed}
use Rattle.columns.specs.Columns.{row}
use Rattle.selection.specs.Selection.{LentOf, Lent, room_of, selected_answer}
use Rattle.selection.specs.Call.{selection_of, selected_steps}
use Rattle.exact_entries.specs.Recurrence.{found}
use Rattle.whole_selection.specs.Call.{WholeCall, whole_size, whole_answer}
use Rattle.whole_selection.specs.ReadBack.{whole_found}
use Rattle.whole_selection.specs.Agree.{float_call, SameFound}

-- the whole numbers as floats, each rounded
abbrev pub converted : List ℤ → List Float
converted values = map (of_int binary64) values

-- selected entries of these floats, whose lists were and are these, agree with the lists left by the call in whole numbers: they are accepted, with the same
-- diagnosis, starts and filled rows, and each lookup finds an equal number or both find nothing
pub record Agrees (x : WholeCall) (left : LentOf ℤ) (values : List Float) (floatLent floatLeft : Lent) : Type 0 where
  pub accepts : Passed (selected_steps (float_call x values) (room_of floatLent))
  pub answers : selected_answer (selection_of (float_call x values)) ≡ whole_answer x
  pub starts_agree : take (x.factor.n + 1) floatLeft.result_starts ≡ take (x.factor.n + 1) left.result_starts
  pub rows_agree : take (whole_size x) floatLeft.result_rows ≡ take (whole_size x) left.result_rows
  pub found_agree : (row col : ℕ) → SameFound (found (selection_of (float_call x values)) floatLeft row col) (whole_found x left row col)
