-- F2 of document 01 with its two cells exchanged and limit 3, its set's size: the diagonal 5, 1 in factor order is the output 1, 5, exactly. The factor with the
-- rows 2 0 and 6 4 and the default limit likewise: its diagonal 13 / 16, 1 / 16 is the output 1 / 16, 13 / 16.
-- Assumes nothing.
use Rattle.std.specs.Prelude.{ℕ, zero, suc, ◌+◌, ◌≤◌, ◌<◌, ◌≡◌, refl, true, false, List, [], ◌∷◌, ◌++◌, length, get_or, pos, ◌*ℤ◌, Float, Ok, Result}
use Rattle.std.proofs.Common.{arith, ap, subst, subst₂, ◌∙◌, lit<, lit≤}
use Rattle.std.specs.Float.{nan}
use Rattle.std.specs.Float.Ieee.{of_bits, of_int, ne, le, add, sub, mul, div, neg}
use Rattle.lists.specs.Test.{any, any_in}
use Rattle.lists.specs.Select.{select, picked}
use Rattle.lists.specs.Sum.{sum_to}
use Rattle.lists.specs.Cells.{cells, cell_count}
use Rattle.lists.specs.Tabulate.{tabulate, tabulate-length, tabulate_at}
use Rattle.lists.specs.Overwrite.{overwrite, filled}
use Rattle.refusal.specs.Steps.{refused, answered, first, after, each, Passed}
use Rattle.bits.specs.Bits.{bit_words}
use Rattle.pairs.specs.Pair.{pair_total}
use Rattle.pairs.specs.Scratch.{scratch_words}
use Rattle.pairs.proofs.ColumnOrder.{set_size_cong}
use Rattle.columns.specs.Columns.{bound_steps, broken_steps, starts_steps, rows_steps, column_steps}
use Rattle.columns.specs.Stored.{finite_steps, stored_steps, factor_steps}
use Rattle.columns.specs.Diagonal.{diagonal_steps}
use Rattle.columns.specs.Kept.{nonzero, pattern, factor_pairs}
use Rattle.columns.specs.Form.{cholesky}
use Rattle.columns.specs.Examples.{whole, f2_starts, f2_rows, f2_values}
use Rattle.exact.specs.Multiple.{Multiple, Whole}
use Rattle.exact.specs.Examples.{f2_entries, f2_matrix, sixteenths-diag, sixteenths, sixteenths-z, sixteenths_matrix}
use Rattle.exact.proofs.Examples.{f2-inverse, sixteenths-inverse}
use Rattle.closed_set.specs.ClosedSet.{descends, Needed, request, dependency, reach, member}
use Rattle.closed_set.proofs.ClosedSet.{descends_at, needed_member}
use Rattle.closed_set.proofs.FactorPattern.{factor_pattern}
use Rattle.entries.specs.Entries.{float_table}
use Rattle.factor_order.specs.Permutation.{reordered}
use Rattle.diagnostics.specs.Diagnosis.{diagnosis}
use Rattle.diagnostics.specs.declared.SelectedInverseStatus.TheVariants.{Complete}
use Rattle.selection.specs.Diagnosis.{diagnosis_of}
use Rattle.selection.specs.Selection.{Lent, lists, room, room_of, room_steps, default_limit, Accepted, selected_set, selected_size, selected_answer, filling_of}
use Rattle.selection.proofs.Selection.{lists_passed}
use Rattle.exact_entries.specs.DyadicEntries.{DyadicCall}
use Rattle.exact_entries.specs.ExactEntries.{ExactCall}
use Rattle.exact_entries.specs.Worked.{f2_lent, f2_lists}
use Rattle.exact_entries.proofs.Worked.{f2_diagonals, f2_exact}
use Rattle.exact_entries.specs.DyadicWorked.{sixteenths_values, sixteenth, sixteenths_lists}
use Rattle.exact_entries.proofs.DyadicWorked.{sixteenths_dyadic}
use Rattle.request_marks.specs.DiagonalMarks.{diagonal_pairs}
use Rattle.original_diagonal_with_limit.specs.Original.{OriginalCall, original_call, original_selection, original_steps, OriginalDiagonal, original_accepted}
use Rattle.original_diagonal_with_limit.specs.ExactDiagonal.{OriginalExact, OriginalMultiples, within_reply, beyond-reply, original_exact_reply, original_dyadic_reply}
use Rattle.refusal.specs.declared.Refusal.{Refusal}
use Rattle.diagnostics.specs.declared.SelectedInverseDiagnostics.{SelectedInverseDiagnostics}
use Rattle.refusal.specs.Refusal.{reply_of}

abbrev f2-exchanged : OriginalCall
f2-exchanged = original_call 2 f2_starts f2_rows f2_values (1 ∷ 0 ∷ []) 3

abbrev output : List Float
output = whole 9 ∷ whole 9 ∷ []

f2-exchanged_passed : Passed (original_steps f2-exchanged (room_of f2_lent) 2)
unfolding any any_in of_int of_bits ne le first each pair_total bit_words scratch_words bound_steps broken_steps starts_steps rows_steps column_steps finite_steps stored_steps factor_steps
    diagonal_steps room_steps original_steps
f2-exchanged_passed = refl

-- the hypotheses of the exact case are met
f2-exchanged_exact : ExactCall (original_selection f2-exchanged) f2_entries
f2-exchanged_exact =
    f2_exact cholesky (diagonal_pairs 2) 3 (room_of f2_lent) (original_accepted f2-exchanged (room_of f2_lent) 2 f2-exchanged_passed).accepted f2_diagonals

-- the call is answered with three pairs, two of them requested, and leaves these lists
f2-exchanged_left : OriginalDiagonal f2-exchanged f2_lent output (Ok (diagnosis 2 3 3 3 Complete)) f2_lists (whole 1 ∷ whole 5 ∷ [])
unfolding any any_in sum_to picked select cells cell_count tabulate filled overwrite of_int of_bits ne le add sub mul div neg first after each pair_total bit_words scratch_words
    bound_steps broken_steps starts_steps rows_steps column_steps finite_steps stored_steps factor_steps diagonal_steps room_steps original_steps
    reach member factor_pairs diagnosis_of reordered float_table
f2-exchanged_left = record {
  replies = refl;
  lists_are = lists_passed (original_steps f2-exchanged (room_of f2_lent) 2) (filling_of (original_selection f2-exchanged)) f2_lent f2-exchanged_passed refl refl refl refl;
  output_is = refl;
}

-- `within_reply`: every reply of the call is this one
f2-exchanged-reply : {reply : Result SelectedInverseDiagnostics Refusal} {left : Lent} {out : List Float} → OriginalDiagonal f2-exchanged f2_lent output reply left out
    → reply_of reply ≡ answered (selected_answer (original_selection f2-exchanged))
unfolding any sum_to picked select cell_count of_int of_bits ne reach member
f2-exchanged-reply C = within_reply f2-exchanged f2_lent output C f2-exchanged_passed (lit≤ tt)

-- `original_exact_reply`: the outputs are the inverse's diagonal at 1 and at 0
f2-exchanged_variances : OriginalExact f2-exchanged f2_lists (whole 1 ∷ whole 5 ∷ []) f2_matrix
f2-exchanged_variances = (original_exact_reply f2-exchanged f2_lent output f2-exchanged_left refl f2_entries f2-exchanged_exact f2_matrix f2-inverse).2

f2-exchanged_complete : (selected_answer (original_selection f2-exchanged)).status ≡ Complete
unfolding any sum_to picked select cell_count of_int of_bits ne reach member
f2-exchanged_complete = f2-exchanged_variances.reads.complete.1 (lit≤ tt)

f2-exchanged_first : Whole (get_or (whole 1 ∷ whole 5 ∷ []) 0 nan) (pos 1)
f2-exchanged_first = f2-exchanged_variances.variances f2-exchanged_complete 0 (lit< tt)

f2-exchanged_second : Whole (get_or (whole 1 ∷ whole 5 ∷ []) 1 nan) (pos 5)
f2-exchanged_second = f2-exchanged_variances.variances f2-exchanged_complete 1 (lit< tt)

-- `beyond-reply`: with a limit one below the set's size every reply is 8
abbrev f2_limited : OriginalCall
f2_limited = original_call 2 f2_starts f2_rows f2_values (1 ∷ 0 ∷ []) 2

f2_limited_passed : Passed (original_steps f2_limited (room_of f2_lent) 2)
unfolding any any_in of_int of_bits ne le first each pair_total bit_words scratch_words bound_steps broken_steps starts_steps rows_steps column_steps finite_steps stored_steps factor_steps
    diagonal_steps room_steps original_steps
f2_limited_passed = refl

f2_limited_reply : {reply : Result SelectedInverseDiagnostics Refusal} {left : Lent} {out : List Float} → OriginalDiagonal f2_limited f2_lent output reply left out → reply_of reply ≡ refused 8
unfolding any sum_to picked select cell_count of_int of_bits ne reach member
f2_limited_reply C = beyond-reply f2_limited f2_lent output C f2_limited_passed (lit< tt)

-- ---- the factor with the rows 2 0 and 6 4
abbrev exchanged : OriginalCall
exchanged = original_call 2 f2_starts f2_rows sixteenths_values (1 ∷ 0 ∷ []) (default_limit f2_rows)

abbrev pub exchanged-output : List Float
exchanged-output = sixteenth false 1 ∷ sixteenth false 13 ∷ []

pub exchanged_passed : Passed (original_steps exchanged (room_of f2_lent) 2)
unfolding any any_in of_int of_bits ne le first each pair_total bit_words scratch_words bound_steps broken_steps starts_steps rows_steps column_steps finite_steps stored_steps factor_steps
    diagonal_steps room_steps original_steps
exchanged_passed = refl

pub exchanged_dyadic : DyadicCall (original_selection exchanged) 4 sixteenths-diag sixteenths sixteenths-z
exchanged_dyadic = sixteenths_dyadic (diagonal_pairs 2) 30 (room_of f2_lent) (original_accepted exchanged (room_of f2_lent) 2 exchanged_passed).accepted

pub exchanged_left : OriginalDiagonal exchanged f2_lent output (Ok (diagnosis 2 3 3 30 Complete)) sixteenths_lists exchanged-output
unfolding any any_in sum_to picked select cells cell_count tabulate filled overwrite of_int of_bits ne le add sub mul div neg first after each pair_total bit_words scratch_words
    bound_steps broken_steps starts_steps rows_steps column_steps finite_steps stored_steps factor_steps diagonal_steps room_steps original_steps
    reach member factor_pairs diagnosis_of reordered float_table
exchanged_left = record {
  replies = refl;
  lists_are = lists_passed (original_steps exchanged (room_of f2_lent) 2) (filling_of (original_selection exchanged)) f2_lent exchanged_passed refl refl refl refl;
  output_is = refl;
}

-- `original_dyadic_reply`: the outputs are the inverse's diagonal at 1 and at 0, 1 / 16 and 13 / 16
pub exchanged_variances : OriginalMultiples exchanged sixteenths_lists exchanged-output 4 sixteenths-z sixteenths_matrix 16
exchanged_variances =
    (original_dyadic_reply exchanged f2_lent output exchanged_left refl 4 sixteenths-diag sixteenths sixteenths-z exchanged_dyadic sixteenths_matrix 16 sixteenths-inverse).2

pub exchanged_complete : (selected_answer (original_selection exchanged)).status ≡ Complete
unfolding any sum_to picked select cell_count of_int of_bits ne reach member
exchanged_complete = exchanged_variances.reads.complete.1 (lit≤ tt)

pub exchanged_first : Multiple 4 (get_or exchanged-output 0 nan) (pos 1) × (pos 1 *ℤ pos 16 ≡ pos 16 *ℤ pos 1)
exchanged_first = exchanged_variances.variances exchanged_complete 0 (lit< tt)

pub exchanged_second : Multiple 4 (get_or exchanged-output 1 nan) (pos 13) × (pos 13 *ℤ pos 16 ≡ pos 16 *ℤ pos 13)
exchanged_second = exchanged_variances.variances exchanged_complete 1 (lit< tt)

-- ---- a set beyond the default limit: 40 columns, the first full, the others with their diagonals alone. Of 79 entries the limit is 790, and all 820 pairs are needed
abbrev pub arrow_starts : List ℕ
arrow_starts = 0 ∷ tabulate (λ c. 40 + c) 40

abbrev pub arrow_rows : List ℕ
arrow_rows = tabulate (λ r. r) 40 ++ tabulate suc 39

abbrev pub arrow_values : List Float
arrow_values = tabulate (λ p. whole 1) 79

abbrev arrow : OriginalCall
arrow = original_call 40 arrow_starts arrow_rows arrow_values (tabulate (λ i. i) 40) (default_limit arrow_rows)

abbrev pub nine : ℕ → ℕ
nine i = 9

abbrev pub nines : ℕ → List Float
nines = tabulate (λ i. whole 9)

abbrev pub arrow_lent : Lent
arrow_lent = lists (tabulate nine 41) (tabulate nine 790) (nines 790) (tabulate nine 1006)

-- its descendants are those of column 0, all other columns
arrow-pattern : pattern arrow_starts arrow_rows (nonzero arrow_values) 0 ≡ tabulate suc 39
unfolding tabulate select picked of_int of_bits ne
arrow-pattern = refl

arrow_passes : Passed (original_steps arrow (room 41 790 790 1006) 40)
unfolding tabulate any any_in of_int of_bits ne le first each pair_total bit_words scratch_words bound_steps broken_steps starts_steps rows_steps column_steps finite_steps stored_steps factor_steps
    diagonal_steps room_steps original_steps
arrow_passes = refl

pub arrow_passed : Passed (original_steps arrow (room_of arrow_lent) (length (nines 40)))
arrow_passed =
    rw (tabulate-length nine 41, tabulate-length nine 790, tabulate-length (λ i. whole 9) 790, tabulate-length nine 1006, tabulate-length (λ i. whole 9) 40) arrow_passes

abbrev arrow-desc : ℕ → List ℕ
arrow-desc = pattern arrow_starts arrow_rows (nonzero arrow_values)

-- 1 to 39 are descendants of column 0
arrow-descends : (d : ℕ) → 0 < d → d < 40 → descends arrow-desc 0 d ≡ true
arrow-descends zero h l = absurd (omega arith)
arrow-descends (suc d) h l =
    subst (λ (k : ℕ). descends arrow-desc 0 k ≡ true) (ap (λ (x : List ℕ). get_or x d 0) arrow-pattern ∙ tabulate_at suc 39 d 0 (omega arith))
    (descends_at arrow-desc 0 d (omega (arith, ap length arrow-pattern, tabulate-length suc 39)))

-- every pair is needed: (r, 0) for (0, 0), and (r, c) for (r, 0)
arrow_first : (r : ℕ) → r < 40 → Needed arrow-desc (diagonal_pairs 40) r 0
arrow_first zero l = request refl
arrow_first (suc r) l =
    subst₂ (λ (x y : ℕ). Needed arrow-desc (diagonal_pairs 40) x y) (omega arith) (omega arith)
    (dependency (suc r) (request {r = 0} {c = 0} refl) (arrow-descends (suc r) (omega arith) l))

arrow_needed : (r c : ℕ) → c ≤ r → r < 40 → Needed arrow-desc (diagonal_pairs 40) r c
arrow_needed r zero h l = arrow_first r l
arrow_needed r (suc c) h l =
    subst₂ (λ (x y : ℕ). Needed arrow-desc (diagonal_pairs 40) x y) (omega arith) (omega arith)
    (dependency (suc c) (arrow_first r l) (arrow-descends (suc c) (omega arith) (omega arith)))

pub arrow_size : selected_size (original_selection arrow) ≡ 820
unfolding sum_to picked select cell_count
arrow_size =
    set_size_cong 40 (selected_set (original_selection arrow)) (λ r c. true)
    (λ r c h l. needed_member 40 arrow-desc (diagonal_pairs 40) (factor_pattern (nonzero arrow_values) A.factor) A.requests (arrow_needed r c h l))
  where
    A : Accepted (original_selection arrow) (room 41 790 790 1006)
    A = (original_accepted arrow (room 41 790 790 1006) 40 arrow_passes).accepted

-- `beyond-reply`: so every reply of the call is 8
pub arrow-reply : {reply : Result SelectedInverseDiagnostics Refusal} {left : Lent} {out : List Float}
    → OriginalDiagonal arrow arrow_lent (nines 40) reply left out → reply_of reply ≡ refused 8
unfolding tabulate
arrow-reply C = beyond-reply arrow arrow_lent (nines 40) C arrow_passed (rw arrow_size (lit< tt))
