-- The starred cases' calls for selected entries with a lookup.
-- Assumes nothing.
use Rattle.std.specs.Prelude.{ℕ, ◌≡◌, List, [], ◌∷◌, Float}
use Rattle.std.proofs.Common.{ap, ◌∙◌}
use Rattle.columns.specs.Examples.{f2_starts, f2_rows, f2_values}
use Rattle.selection.specs.Selection.{Lent, Room, room, room_of}
use Rattle.selection.specs.Call.{Call, call}
use Rattle.selected_entry.specs.declared.SelectedEntry.{SelectedEntry}
use Rattle.selected_entry.specs.SelectedEntry.{EntryAnswer, answer_of, entry_answer, ReadEntry}

-- F2 with requests and limit 3, in lists that just suffice
abbrev pub f2_entry : List ℕ → List ℕ → ℕ → ℕ → EntryAnswer
f2_entry request_rows request_columns = entry_answer (call 2 f2_starts f2_rows f2_values 2 request_rows request_columns 3) (room 3 3 3 12)

-- one column with this diagonal alone, the request (0, 0) and limit 3
abbrev pub one_entry : Float → EntryAnswer
one_entry diagonal = entry_answer (call 1 (0 ∷ 1 ∷ []) (0 ∷ []) (diagonal ∷ []) 1 (0 ∷ []) (0 ∷ []) 3) (room 2 1 1 6) 0 0

-- the answer of a call whose lists have these lengths
pub read_answer_in : (x : Call) (lent : Lent) (row col : ℕ) (r : SelectedEntry) (lengths : Room) {left : Lent}
    → ReadEntry x lent row col r left → room_of lent ≡ lengths → answer_of r ≡ entry_answer x lengths row col
read_answer_in x lent row col r lengths R same = R.replies ∙ ap (λ (l : Room). entry_answer x l row col) same
