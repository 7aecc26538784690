-- F2 of document 01 with the request (0, 0) and limit 3: what the call's contract says of a reply, and what the laws of a reply then give. The same of the
-- factor with the rows 2 0 and 6 4.
-- Assumes nothing.
use Rattle.std.specs.Prelude.{◌≡◌, refl, pos, negsuc, ◌*ℤ◌, Float, Ok, Result}
use Rattle.std.proofs.Common.{sym, ap, ◌∙◌}
use Rattle.refusal.specs.Steps.{answered}
use Rattle.refusal.proofs.Steps.{first_passed}
use Rattle.exact.specs.Multiple.{Multiple, Whole}
use Rattle.exact.specs.Examples.{f2_entries, f2_matrix, sixteenths-diag, sixteenths, sixteenths-z, sixteenths_matrix}
use Rattle.exact.proofs.Examples.{f2-inverse, sixteenths-inverse}
use Rattle.diagnostics.specs.Diagnosis.{diagnosis}
use Rattle.diagnostics.specs.declared.SelectedInverseDiagnostics.{SelectedInverseDiagnostics}
use Rattle.diagnostics.specs.declared.SelectedInverseStatus.TheVariants.{Complete}
use Rattle.selection.specs.Selection.{room_of, selected_answer, Lent}
use Rattle.selection.specs.Call.{selection_of, selected_steps}
use Rattle.exact_entries.specs.Worked.{f2_lent, f2_found, F2ReadsBack, f2-call, f2_lists}
use Rattle.exact_entries.proofs.Worked.{f2_passed, f2-call_exact, f2_left, f2_answer, f2_below, f2_complete}
use Rattle.exact_entries.specs.DyadicWorked.{sixteenths-call, sixteenths_lists}
use Rattle.exact_entries.proofs.DyadicWorked.{sixteenths_passed, sixteenths-call_dyadic, sixteenths_left, sixteenths_answer, sixteenths_below}
use Rattle.exact_entries.specs.DyadicWorked.{sixteenths_found, SixteenthsRead}
use Rattle.exact_entries.proofs.DyadicWorked.{sixteenths_complete}
use Rattle.selected.specs.Selected.{SelectedEntries}
use Rattle.selected.specs.ExactReply.{passed_reply, exact_reply, dyadic_reply}
use Rattle.refusal.specs.declared.Refusal.{Refusal}
use Rattle.refusal.specs.Refusal.{reply_of}

-- the contract is met by this diagnosis and these lists
f2-replied : SelectedEntries f2-call f2_lent (Ok (diagnosis 1 3 3 3 Complete)) f2_lists
f2-replied = record {
  replies =
      ap (λ (d : SelectedInverseDiagnostics). answered d) (sym f2_answer)
      ∙ sym (first_passed (selected_steps f2-call (room_of f2_lent)) (selected_answer (selection_of f2-call)) f2_passed);
  lists_are = f2_left;
}

-- `passed_reply`: whatever the call replies is this diagnosis
f2-reply : {reply : Result SelectedInverseDiagnostics Refusal} {left : Lent} → SelectedEntries f2-call f2_lent reply left
    → reply_of reply ≡ answered (diagnosis 1 3 3 3 Complete)
f2-reply C = passed_reply f2-call f2_lent C f2_passed ∙ ap (λ (d : SelectedInverseDiagnostics). answered d) f2_answer

-- `exact_reply`: the inverse is what reads back, so at (1, 0) a number equal to -2
f2-reply_exact : F2ReadsBack (selection_of f2-call)
f2-reply_exact = (exact_reply f2-call f2_lent f2-replied refl f2_entries f2-call_exact f2_matrix f2-inverse).1

f2-reply_below : (v : Float) × (f2_found (selection_of f2-call) 1 0 ≡ answered v) × Whole v (negsuc 1)
f2-reply_below = f2-reply_exact.members f2_complete 1 0 f2_below

-- ---- the factor with the rows 2 0 and 6 4
sixteenths-replied : SelectedEntries sixteenths-call f2_lent (Ok (diagnosis 1 3 3 3 Complete)) sixteenths_lists
sixteenths-replied = record {
  replies =
      ap (λ (d : SelectedInverseDiagnostics). answered d) (sym sixteenths_answer)
      ∙ sym (first_passed (selected_steps sixteenths-call (room_of f2_lent)) (selected_answer (selection_of sixteenths-call)) sixteenths_passed);
  lists_are = sixteenths_left;
}

-- `dyadic_reply`: the inverse over 16 is what reads back, so at (1, 0) a number equal to -3 / 16
sixteenths-reply_exact : SixteenthsRead (selection_of sixteenths-call)
sixteenths-reply_exact =
    (dyadic_reply sixteenths-call f2_lent sixteenths-replied refl 4 sixteenths-diag sixteenths sixteenths-z sixteenths-call_dyadic sixteenths_matrix 16 sixteenths-inverse).1

sixteenths-reply_below : (v : Float) × (sixteenths_found (selection_of sixteenths-call) 1 0 ≡ answered v) × Multiple 4 v (negsuc 2) × (negsuc 2 *ℤ pos 16 ≡ pos 16 *ℤ negsuc 2)
sixteenths-reply_below = sixteenths-reply_exact.members sixteenths_complete 1 0 sixteenths_below
