-- F2 of document 01 with the request (0, 0) and limit 3, and the pair (1, 0): what the contract says of every reply. The same of the factor with the rows
-- 2 0 and 6 4.
-- Assumes nothing.
use Rattle.std.specs.Prelude.{◌≡◌, Bool, true, pos, negsuc, ◌*ℤ◌, Float, Result}
use Rattle.std.proofs.Common.{sym, ap, ◌∙◌}
use Rattle.std.specs.Float.Ieee.{neg}
use Rattle.refusal.specs.Steps.{Reply, answered}
use Rattle.columns.specs.Examples.{whole}
use Rattle.exact.specs.Multiple.{Multiple, Whole}
use Rattle.exact.specs.Examples.{f2_entries, f2_matrix, sixteenths-diag, sixteenths, sixteenths-z, sixteenths_matrix}
use Rattle.exact.proofs.Examples.{f2-inverse, sixteenths-inverse}
use Rattle.diagnostics.specs.declared.SelectedInverseStatus.TheVariants.{Complete}
use Rattle.selection.specs.Selection.{room_of, selected_set, selected_complete, selected_table, Lent}
use Rattle.selection.proofs.Status.{selected_complete_lem, status_tells}
use Rattle.selection.specs.Call.{selection_of, selected_steps}
use Rattle.exact_entries.specs.ReadBack.{read_back}
use Rattle.exact_entries.proofs.Recurrence.{found_entries}
use Rattle.exact_entries.specs.Worked.{f2_lent, f2-call}
use Rattle.exact_entries.proofs.Worked.{f2_passed, f2_accepted, f2-call_exact, f2_left, f2_below, f2_complete, f2_recurs}
use Rattle.exact_entries.specs.DyadicWorked.{sixteenths-call}
use Rattle.exact_entries.proofs.DyadicWorked.{sixteenths-call_dyadic, sixteenths_below}
use Rattle.selected_entry.specs.declared.SelectedEntry.{SelectedEntry}
use Rattle.selected_entry.specs.declared.SelectedEntry.TheVariants.{Found}
use Rattle.selected_entry.specs.SelectedEntry.{looked, answer_of, answer_from, entry_answer, ReadEntry}
use Rattle.refusal.specs.declared.Refusal.{Refusal}
use Rattle.refusal.specs.Refusal.{reply_of}

-- the call is accepted, and its set within the limit
f2_within_limit : selected_complete (selection_of f2-call) ≡ true
f2_within_limit = status_tells (selection_of f2-call) Complete f2_complete

-- what reads back at (1, 0)
f2_read : read_back 2 (selected_set (selection_of f2-call)) (selected_table (selection_of f2-call)) 1 0 ≡ answered (neg (whole 2))
f2_read =
    sym (found_entries (selection_of f2-call) f2_lent f2_accepted (selected_steps f2-call (room_of f2_lent)) f2_passed f2_left ((selected_complete_lem (selection_of f2-call)).0 f2_complete) 1 0)
    ∙ f2_recurs

-- so every reply says -2
f2_replies : {reply : SelectedEntry} {left : Lent} → ReadEntry f2-call f2_lent 1 0 reply left
    → answer_of reply ≡ looked (answered (neg (whole 2)))
unfolding entry_answer
f2_replies R =
    R.replies
    ∙ ap (λ (v : Reply (Unit {0})). answer_from v (selected_complete (selection_of f2-call)) (read_back 2 (selected_set (selection_of f2-call)) (selected_table (selection_of f2-call)) 1 0)) f2_passed
    ∙ ap (λ (b : Bool). answer_from (answered tt) b (read_back 2 (selected_set (selection_of f2-call)) (selected_table (selection_of f2-call)) 1 0)) f2_within_limit
    ∙ ap looked f2_read

-- and, by the exact case that the contract holds, what is found is a number equal to -2
f2_found_exact : {e : Result Float Refusal} {left : Lent} → ReadEntry f2-call f2_lent 1 0 (Found e) left
    → (v : Float) × (reply_of e ≡ answered v) × Whole v (negsuc 1)
f2_found_exact R = (R.exact f2_entries f2-call_exact f2_matrix f2-inverse).1 f2_below

-- of the factor with the rows 2 0 and 6 4 what is found at (1, 0) is a number equal to -3 / 16
sixteenths_found_exact : {e : Result Float Refusal} {left : Lent} → ReadEntry sixteenths-call f2_lent 1 0 (Found e) left
    → (v : Float) × (reply_of e ≡ answered v) × Multiple 4 v (negsuc 2) × (negsuc 2 *ℤ pos 16 ≡ pos 16 *ℤ negsuc 2)
sixteenths_found_exact R = (R.dyadic 4 sixteenths-diag sixteenths sixteenths-z sixteenths-call_dyadic sixteenths_matrix 16 sixteenths-inverse).1 sixteenths_below
