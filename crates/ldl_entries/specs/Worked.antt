-- F2 of document 01 with pivots of 1, its diagonals kept and not, the request (0, 0) and limit 3: what the laws of a reply ask is met, and what they then give.
-- Assumes nothing.
use Rattle.std.specs.Prelude.{◌≡◌, refl, true, false, List, [], ◌∷◌, map, ℕ, ◌<◌, pos, negsuc, take, Float, Ok, Result}
use Rattle.std.proofs.Common.{sym, ap, ◌∙◌, lit≤, lit<}
use Rattle.std.specs.Float.{binary64, fin}
use Rattle.std.specs.Float.Ieee.{of_bits, of_int, ne, eq, le, add, sub, mul, div, neg, fits}
use Rattle.lists.specs.Test.{any, any_in}
use Rattle.lists.specs.Select.{select, picked}
use Rattle.lists.specs.Sum.{sum_to}
use Rattle.lists.specs.Cells.{cells, cell_count}
use Rattle.lists.specs.Tabulate.{tabulate}
use Rattle.lists.specs.Overwrite.{overwrite, filled}
use Rattle.refusal.specs.Steps.{Passed, answered, first}
use Rattle.refusal.proofs.Steps.{first_passed}
use Rattle.bits.specs.Bits.{bit_words}
use Rattle.pairs.specs.Pair.{pair_total}
use Rattle.pairs.specs.Scratch.{scratch_words}
use Rattle.columns.specs.Columns.{value, bound_steps, broken_steps, starts_steps, rows_steps, column_steps}
use Rattle.columns.specs.Kept.{nonzero, entry, desc_places, desc, pattern}
use Rattle.columns.specs.Stored.{finite_steps, stored_steps}
use Rattle.columns.specs.Form.{pivoted, pattern_pairs}
use Rattle.columns.specs.Pivots.{float_one, pivot_list_steps, pivot_steps}
use Rattle.columns.specs.UnitDiagonals.{unit_steps}
use Rattle.columns.specs.Examples.{whole, f2_starts, f2_rows, f2_values}
use Rattle.exact.specs.Multiple.{Whole}
use Rattle.exact.specs.Examples.{f2_entries, f2_matrix}
use Rattle.exact.proofs.Examples.{columns₂, f2-inverse}
use Rattle.closed_set.specs.ClosedSet.{reach, member}
use Rattle.closed_set.specs.Requests.{requested}
use Rattle.entries.specs.Entries.{float_table, pivot_table}
use Rattle.diagnostics.specs.Diagnosis.{diagnosis}
use Rattle.diagnostics.specs.declared.SelectedInverseDiagnostics.{SelectedInverseDiagnostics}
use Rattle.diagnostics.specs.declared.SelectedInverseStatus.TheVariants.{Complete}
use Rattle.selection.specs.Diagnosis.{diagnosis_of}
use Rattle.selection.specs.RequestSteps.{request_steps}
use Rattle.selection.specs.Selection.{Lent, lists, ResultLists, room_of, room_steps, selected_answer, selected_table, filling_of}
use Rattle.selection.proofs.Selection.{lists_passed}
use Rattle.selection.specs.LdlCall.{LdlCall, ldl_call, ldl_selection, ldl_steps}
use Rattle.selection.proofs.LdlCall.{ldl_units, ldl_accepted}
use Rattle.exact_entries.specs.Recurrence.{ReadsRecurrence}
use Rattle.exact_entries.specs.ExactEntries.{ExactCall}
use Rattle.exact_entries.specs.Worked.{f2_lent, f2_lists, F2Left, f2_found, F2ReadsBack, f2_cleared}
use Rattle.exact_entries.proofs.Worked.{f2_diagonals, f2_exact, f2_passed, f2_left, f2_below}
use Rattle.exact_entries.specs.DyadicEntries.{ReadsMultiples}
use Rattle.exact_entries.specs.PivotWorked.{two-four, quarters_pivots, quarters_entries, quarters-z, quarters_matrix}
use Rattle.exact_entries.proofs.PivotWorked.{quarters_dyadic, quarters-inverse}
use Rattle.ldl_entries.specs.LdlEntries.{LdlEntries}
use Rattle.ldl_entries.specs.LdlReply.{ldl_passed, ldl_answers, ldl_answer, ldl_recurrence, ldl_exact, ldl_dyadic}
use Rattle.ldl_entries.specs.LdlSame.{pivots_same, families_same}
use Rattle.ldl_entries.specs.DivOne.{div-one}
use Rattle.ldl_entries.specs.LdlOnes.{OnesBeside, ones_same}
use Rattle.refusal.specs.declared.Refusal.{Refusal}
use Rattle.refusal.specs.Refusal.{reply_of}

abbrev f2_pivots : List Float
f2_pivots = whole 1 ∷ whole 1 ∷ []

-- diagonals kept, and none kept
abbrev f2_ldl : LdlCall
f2_ldl = ldl_call 2 f2_starts f2_rows f2_values f2_pivots 2 (0 ∷ []) (0 ∷ []) 3

abbrev f2-bare : LdlCall
f2-bare = ldl_call 2 (0 ∷ 1 ∷ 1 ∷ []) (1 ∷ []) (whole 2 ∷ []) f2_pivots 2 (0 ∷ []) (0 ∷ []) 3

ldl_is_passed : Passed (ldl_steps f2_ldl (room_of f2_lent))
unfolding any any_in of_int of_bits ne eq le first pair_total bit_words scratch_words bound_steps broken_steps starts_steps rows_steps column_steps finite_steps stored_steps
    request_steps pivot_list_steps unit_steps pivot_steps room_steps ldl_steps
ldl_is_passed = refl

bare_is_passed : Passed (ldl_steps f2-bare (room_of f2_lent))
unfolding any any_in of_int of_bits ne eq le first pair_total bit_words scratch_words bound_steps broken_steps starts_steps rows_steps column_steps finite_steps stored_steps
    request_steps pivot_list_steps unit_steps pivot_steps room_steps ldl_steps
bare_is_passed = refl

-- the contract is met by this diagnosis and these lists
told : selected_answer (ldl_selection f2_ldl) ≡ diagnosis 1 3 3 3 Complete
unfolding any sum_to picked select cell_count of_int of_bits ne pattern_pairs reach member requested diagnosis_of
told = refl

bare-told : selected_answer (ldl_selection f2-bare) ≡ diagnosis 1 3 3 3 Complete
unfolding any sum_to picked select cell_count of_int of_bits ne pattern_pairs reach member requested diagnosis_of
bare-told = refl

left : F2Left (ldl_steps f2_ldl (room_of f2_lent)) (ldl_selection f2_ldl)
unfolding any any_in sum_to picked select cells cell_count tabulate filled overwrite of_int of_bits ne add sub mul div neg pair_total bit_words scratch_words reach member
    requested pivot_table
left = lists_passed (ldl_steps f2_ldl (room_of f2_lent)) (filling_of (ldl_selection f2_ldl)) f2_lent ldl_is_passed refl refl refl refl

bare_left : F2Left (ldl_steps f2-bare (room_of f2_lent)) (ldl_selection f2-bare)
unfolding any any_in sum_to picked select cells cell_count tabulate filled overwrite of_int of_bits ne add sub mul div neg pair_total bit_words scratch_words reach member
    requested pivot_table
bare_left = lists_passed (ldl_steps f2-bare (room_of f2_lent)) (filling_of (ldl_selection f2-bare)) f2_lent bare_is_passed refl refl refl refl

replied : LdlEntries f2_ldl f2_lent (Ok (diagnosis 1 3 3 3 Complete)) f2_lists
replied = record {
  replies =
      ap (λ (d : SelectedInverseDiagnostics). answered d) (sym told)
      ∙ sym (first_passed (ldl_steps f2_ldl (room_of f2_lent)) (selected_answer (ldl_selection f2_ldl)) ldl_is_passed);
  lists_are = left;
}

bare-replied : LdlEntries f2-bare f2_lent (Ok (diagnosis 1 3 3 3 Complete)) f2_lists
bare-replied = record {
  replies =
      ap (λ (d : SelectedInverseDiagnostics). answered d) (sym bare-told)
      ∙ sym (first_passed (ldl_steps f2-bare (room_of f2_lent)) (selected_answer (ldl_selection f2-bare)) bare_is_passed);
  lists_are = bare_left;
}

-- `ldl_passed`: whatever the call replies is this diagnosis
f2-reply : {reply : Result SelectedInverseDiagnostics Refusal} {after : Lent} → LdlEntries f2_ldl f2_lent reply after → reply_of reply ≡ answered (diagnosis 1 3 3 3 Complete)
f2-reply C = ldl_passed f2_ldl f2_lent C ldl_is_passed ∙ ap (λ (d : SelectedInverseDiagnostics). answered d) told

-- `ldl_answers`, `ldl_answer`: only a call that passes answers, with its diagnosis
f2_answers : Passed (ldl_steps f2_ldl (room_of f2_lent))
f2_answers = ldl_answers f2_ldl f2_lent replied refl

f2_answer_is : diagnosis 1 3 3 3 Complete ≡ selected_answer (ldl_selection f2_ldl)
f2_answer_is = ldl_answer f2_ldl f2_lent replied refl

-- `ldl_recurrence`: the recurrence with pivots is what reads back
f2_recurrence : ReadsRecurrence (ldl_selection f2_ldl) f2_lists (selected_table (ldl_selection f2_ldl))
f2_recurrence = ldl_recurrence f2_ldl f2_lent replied refl

-- `ldl_exact`: every pivot is 1, so the inverse is what reads back, at (1, 0) a number equal to -2
f2_ldl_exact : ExactCall (ldl_selection f2_ldl) f2_entries
unfolding of_int
f2_ldl_exact =
    f2_exact (pivoted f2_pivots) (requested (0 ∷ []) (0 ∷ [])) 3 (room_of f2_lent) (ldl_accepted f2_ldl (room_of f2_lent) ldl_is_passed)
    (columns₂ (λ j. Whole (value f2_pivots j) (pos 1)) refl refl)

f2_reads : F2ReadsBack (ldl_selection f2_ldl)
f2_reads = ldl_exact f2_ldl f2_lent replied refl f2_entries f2_ldl_exact f2_matrix f2-inverse

complete : (selected_answer (ldl_selection f2_ldl)).status ≡ Complete
unfolding diagnosis
complete = ap (λ (d : SelectedInverseDiagnostics). d.status) told

f2_reads_below : (v : Float) × (f2_found (ldl_selection f2_ldl) 1 0 ≡ answered v) × Whole v (negsuc 1)
f2_reads_below = f2_reads.members complete 1 0 f2_below

-- `ldl_units`: the kept diagonal of column 0, stored at place 0, is 1
f2_unit : float_one f2_values 0 ≡ true
unfolding of_int of_bits ne
f2_unit = ldl_units f2_ldl (room_of f2_lent) ldl_is_passed 0 0 (lit< tt) (lit≤ tt) (lit< tt) refl

-- ---- the pivots 2 and 4, in multiples of 1 / 4: the entries 3 / 2, -1 / 2 and 1 / 4
abbrev f2-quarters : LdlCall
f2-quarters = ldl_call 2 f2_starts f2_rows f2_values two-four 2 (0 ∷ []) (0 ∷ []) 3

abbrev quarters_lists : Lent
quarters_lists = lists f2_starts f2_rows (fin false 3 (negsuc 0) ∷ fin true 1 (negsuc 0) ∷ fin false 1 (negsuc 1) ∷ []) f2_cleared

quarters_is_passed : Passed (ldl_steps f2-quarters (room_of f2_lent))
unfolding any any_in of_int of_bits ne eq le first pair_total bit_words scratch_words bound_steps broken_steps starts_steps rows_steps column_steps finite_steps stored_steps
    request_steps pivot_list_steps unit_steps pivot_steps room_steps ldl_steps
quarters_is_passed = refl

quarters-told : selected_answer (ldl_selection f2-quarters) ≡ diagnosis 1 3 3 3 Complete
unfolding any sum_to picked select cell_count of_int of_bits ne pattern_pairs reach member requested diagnosis_of
quarters-told = refl

quarters_left : ResultLists (ldl_steps f2-quarters (room_of f2_lent)) (filling_of (ldl_selection f2-quarters)) f2_lent quarters_lists
unfolding any any_in sum_to picked select cells cell_count tabulate filled overwrite of_int of_bits ne add sub mul div neg pair_total bit_words scratch_words reach member
    requested pivot_table
quarters_left = lists_passed (ldl_steps f2-quarters (room_of f2_lent)) (filling_of (ldl_selection f2-quarters)) f2_lent quarters_is_passed refl refl refl refl

quarters-replied : LdlEntries f2-quarters f2_lent (Ok (diagnosis 1 3 3 3 Complete)) quarters_lists
quarters-replied = record {
  replies =
      ap (λ (d : SelectedInverseDiagnostics). answered d) (sym quarters-told)
      ∙ sym (first_passed (ldl_steps f2-quarters (room_of f2_lent)) (selected_answer (ldl_selection f2-quarters)) quarters_is_passed);
  lists_are = quarters_left;
}

-- `ldl_dyadic`: the inverse 6 -2 and -2 1 over 4 is what reads back
quarters_read : ReadsMultiples (ldl_selection f2-quarters) quarters_lists 2 quarters-z quarters_matrix 4
quarters_read =
    ldl_dyadic f2-quarters f2_lent quarters-replied refl 2 quarters_pivots quarters_entries quarters-z quarters_dyadic quarters_matrix 4 quarters-inverse

-- ---- with its diagonals kept and not, and with L * Lᵀ: the same descendants, so equal answers, starts and rows
same : (c : ℕ) → c < 2 → pattern f2_starts f2_rows (nonzero f2_values) c ≡ pattern (0 ∷ 1 ∷ 1 ∷ []) (1 ∷ []) (nonzero (whole 2 ∷ [])) c
unfolding select picked of_bits of_int ne
same = columns₂ (λ c. pattern f2_starts f2_rows (nonzero f2_values) c ≡ pattern (0 ∷ 1 ∷ 1 ∷ []) (1 ∷ []) (nonzero (whole 2 ∷ [])) c) refl refl

-- `pivots_same`
kept_or_not : selected_answer (ldl_selection f2_ldl) ≡ selected_answer (ldl_selection f2-bare)
kept_or_not =
    (pivots_same 2 2 3 (0 ∷ []) (0 ∷ []) f2_starts f2_rows f2_values f2_pivots (0 ∷ 1 ∷ 1 ∷ []) (1 ∷ []) (whole 2 ∷ []) same f2_lent f2_lent f2_pivots
    ldl_is_passed bare_is_passed replied bare-replied).answers

-- `families_same`
either_family : take 3 f2_lists.result_starts ≡ take 3 f2_lists.result_starts
either_family =
    (families_same 2 2 3 (0 ∷ []) (0 ∷ []) f2_starts f2_rows f2_values f2_pivots f2_starts f2_rows f2_values (λ c h. refl) f2_lent f2_lent
    ldl_is_passed f2_passed replied f2_left).starts_same complete

-- the one descendant of column 0, which is stored at 0 and at 1
bare_place : desc_places (0 ∷ 1 ∷ 1 ∷ []) (1 ∷ []) (nonzero (whole 2 ∷ [])) 0 ≡ 0 ∷ []
unfolding select picked of_bits of_int ne
bare_place = refl

f2_place : desc_places f2_starts f2_rows (nonzero f2_values) 0 ≡ 1 ∷ []
unfolding select picked of_bits of_int ne
f2_place = refl

bare_none : desc_places (0 ∷ 1 ∷ 1 ∷ []) (1 ∷ []) (nonzero (whole 2 ∷ [])) 1 ≡ []
unfolding select picked of_bits of_int ne
bare_none = refl

f2_none : desc_places f2_starts f2_rows (nonzero f2_values) 1 ≡ []
unfolding select picked of_bits of_int ne
f2_none = refl

bare_pivots : (j : ℕ) → j < 2 → Whole (value f2_pivots j) (pos 1)
unfolding of_int
bare_pivots = columns₂ (λ j. Whole (value f2_pivots j) (pos 1)) refl refl

-- `ones_same`: with its diagonals not kept and pivots of 1, F2 has the bits that it has with L * Lᵀ
bare-ones : OnesBeside 2 (0 ∷ 1 ∷ 1 ∷ []) (1 ∷ []) (whole 2 ∷ []) f2_pivots f2_starts f2_rows f2_values
bare-ones = record {
  pivots_one = bare_pivots;
  diagonals_one = f2_diagonals;
  entries_same = columns₂ (λ j. desc (0 ∷ 1 ∷ 1 ∷ []) (1 ∷ []) (whole 2 ∷ []) j ≡ desc f2_starts f2_rows f2_values j)
      (ap (map (entry (1 ∷ []) (whole 2 ∷ []))) bare_place ∙ sym (ap (map (entry f2_rows f2_values)) f2_place))
      (ap (map (entry (1 ∷ []) (whole 2 ∷ []))) bare_none ∙ sym (ap (map (entry f2_rows f2_values)) f2_none));
}

bare-bits : pivot_table 2 (0 ∷ 1 ∷ 1 ∷ []) (1 ∷ []) (whole 2 ∷ []) f2_pivots 1 0 ≡ float_table 2 f2_starts f2_rows f2_values 1 0
bare-bits =
    ones_same (ldl_accepted f2-bare (room_of f2_lent) bare_is_passed).factor (ldl_accepted f2_ldl (room_of f2_lent) ldl_is_passed).factor bare-ones 1 0
    (lit≤ tt, lit< tt)

-- `div-one`: 5 / 1 is 5
five_by_one : div binary64 (whole 5) (whole 1) ≡ whole 5
unfolding of_int fits
five_by_one = div-one (whole 5) (whole 1) tt refl
