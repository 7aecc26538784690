-- Laws of specs/Worked.antt.
use Rattle.std.specs.Prelude.{ℕ, ◌≤◌, ◌<◌, ◌≡◌, refl, Bool, true, false, List, [], ◌∷◌, pos, negsuc, Float}
use Rattle.std.proofs.Common.{arith, sym, ◌∙◌, true≢false, lit≤, lit<}
use Rattle.std.specs.Float.Ieee.{of_bits, of_int, ne, le, lt, add, sub, mul, div, neg}
use Rattle.std.specs.Float.Ieee.Scale.{finite}
use Rattle.lists.specs.Test.{any, any_in}
use Rattle.lists.specs.Select.{select, picked}
use Rattle.lists.specs.Sum.{sum_to}
use Rattle.lists.specs.Cells.{cells, cell_count}
use Rattle.lists.specs.Tabulate.{tabulate}
use Rattle.lists.specs.Overwrite.{overwrite, filled}
use Rattle.refusal.specs.Steps.{refused, answered, Passed, first}
use Rattle.bits.specs.Bits.{bit_words}
use Rattle.pairs.specs.Pair.{pair_total}
use Rattle.pairs.specs.Scratch.{scratch_words}
use Rattle.columns.specs.Columns.{value, bound_steps, broken_steps, starts_steps, rows_steps, column_steps, factor_lists}
use Rattle.columns.specs.Stored.{finite_steps, stored_steps}
use Rattle.columns.specs.Diagonal.{diagonal_steps}
use Rattle.columns.specs.Kept.{f0, nonzero, diag, desc, factor_pairs}
use Rattle.columns.specs.Form.{Form, cholesky, pivoted, divisor, Pivots}
use Rattle.columns.specs.Examples.{whole, f2_starts, f2_rows, f2_values}
use Rattle.integers.specs.Matrix.{Matrix}
use Rattle.integers.specs.Inverse.{WholeInverse}
use Rattle.takahashi.specs.Recurrence.{Lower}
use Rattle.exact.specs.Multiple.{Whole}
use Rattle.exact.specs.Exact.{Alike}
use Rattle.exact.specs.Factor.{factor}
use Rattle.exact.specs.ExactCase.{ones, WithinBound}
use Rattle.exact.specs.Examples.{f2_entries, f2_matrix}
use Rattle.exact.proofs.Examples.{columns₂, f2_within, f2-inverse}
use Rattle.closed_set.specs.ClosedSet.{reach, member, request, dependency}
use Rattle.closed_set.proofs.ClosedSet.{needed_range, needed_member}
use Rattle.closed_set.specs.Requests.{requested}
use Rattle.closed_set.proofs.FactorPattern.{factor_pattern}
use Rattle.entries.specs.Entries.{position, float_table}
use Rattle.result.specs.Halving.{lookup_within}
use Rattle.selection.specs.RequestSteps.{request_steps}
use Rattle.diagnostics.specs.Diagnosis.{diagnosis}
use Rattle.diagnostics.specs.declared.SelectedInverseStatus.TheVariants.{Complete}
use Rattle.selection.specs.Diagnosis.{diagnosis_of}
use Rattle.selection.specs.Selection.{Selection, selecting, selected_set, selected_size, selected_answer, selected_table, Room, Lent, room_of, room_steps, Accepted, ResultLists, filling_of}
use Rattle.selection.proofs.Selection.{lists_passed}
use Rattle.selection.proofs.Status.{selected_complete_lem}
use Rattle.selection.specs.Call.{Call, call, selection_of, selected_steps}
use Rattle.selection.proofs.Call.{accepted}
use Rattle.exact_entries.specs.Recurrence.{InClosedSet, found}
use Rattle.exact_entries.proofs.Recurrence.{selected_numbers_lem, found_within, reads_recurrence}
use Rattle.exact_entries.specs.ExactEntries.{ExactCall}
use Rattle.exact_entries.proofs.ExactEntries.{exact_inverse, exact_symmetric, exact_at, exact_call}
use Rattle.exact_entries.proofs.Count.{selected_counts}
use Rattle.exact_entries.specs.Worked.{f2_lent, f2_result, F2Left, f2_found, F2ReadsBack, f2-call}

-- ---- what every call on F2 has
pub f2_diagonals : (j : ℕ) → j < 2 → Whole (diag f2_starts f2_rows f2_values j) (pos 1)
unfolding select picked of_bits of_int ne
f2_diagonals = columns₂ (λ j. Whole (diag f2_starts f2_rows f2_values j) (pos 1)) refl refl

f2_alike : (j : ℕ) → j < 2 → Alike 0 (desc f2_starts f2_rows f2_values j) (f2_entries j)
unfolding select picked of_bits of_int ne
f2_alike = columns₂ (λ j. Alike 0 (desc f2_starts f2_rows f2_values j) (f2_entries j)) (refl, refl, tt) tt

-- F2 in either form, with any requests and limit
module _ (form : Form) (req : ℕ → ℕ → Bool) (limit : ℕ) (lengths : Room) (A : Accepted (selecting form (factor_lists 2 f2_starts f2_rows f2_values) req limit) lengths) where
  -- the closed set is in the lower triangle
  f2_lower : (i j : ℕ) → InClosedSet (selecting form (factor_lists 2 f2_starts f2_rows f2_values) req limit) i j → Lower 2 i j
  f2_lower i j p = needed_range _ _ 2 (factor_pattern (nonzero f2_values) A.factor) A.requests p

  f2_bound : WithinBound 2 f2_entries (InClosedSet (selecting form (factor_lists 2 f2_starts f2_rows f2_values) req limit))
  f2_bound = record {
    entry = λ i j p. f2_within.entry i j (f2_lower i j p);
    product_below = λ i j p h. f2_within.product_below i j (f2_lower i j p) h;
    sum_below = λ i j p h. f2_within.sum_below i j (f2_lower i j p) h;
    product_diagonal = λ j p. f2_within.product_diagonal j (f2_lower j j p);
    sum_diagonal = λ j p. f2_within.sum_diagonal j (f2_lower j j p);
  }

  -- so an accepted call meets demand 3's hypotheses
  pub f2_exact : ((j : ℕ) → j < 2 → Whole (divisor 2 f2_starts f2_rows f2_values form j) (pos 1))
      → ExactCall (selecting form (factor_lists 2 f2_starts f2_rows f2_values) req limit) f2_entries
  f2_exact one = record { diagonals = one; entries = f2_alike; within = f2_bound }

pub f2_passed : Passed (selected_steps f2-call (room_of f2_lent))
unfolding any any_in of_int of_bits ne le first pair_total bit_words scratch_words bound_steps broken_steps starts_steps rows_steps column_steps finite_steps stored_steps request_steps
    diagonal_steps room_steps selected_steps
f2_passed = refl

pub f2_accepted : Accepted (selection_of f2-call) (room_of f2_lent)
f2_accepted = accepted f2-call (room_of f2_lent) f2_passed

pub f2-call_exact : ExactCall (selection_of f2-call) f2_entries
f2-call_exact = f2_exact cholesky _ 3 (room_of f2_lent) f2_accepted f2_diagonals

-- the lists that it leaves
pub f2_left : F2Left (selected_steps f2-call (room_of f2_lent)) (selection_of f2-call)
unfolding any any_in sum_to picked select cells cell_count tabulate filled overwrite of_int of_bits ne add sub mul div neg pair_total bit_words scratch_words reach member requested float_table
f2_left = lists_passed (selected_steps f2-call (room_of f2_lent)) (filling_of (selection_of f2-call)) f2_lent f2_passed refl refl refl refl

-- `exact_call`
pub f2_reads : F2ReadsBack (selection_of f2-call)
f2_reads = exact_call f2-call f2_lent f2_passed f2_entries f2-call_exact f2_matrix f2-inverse f2_left

-- (0, 0) is requested, and (1, 0) is a dependency of it
f2_first : InClosedSet (selection_of f2-call) 0 0
unfolding any requested
f2_first = request refl

pub f2_below : InClosedSet (selection_of f2-call) 1 0
unfolding any select picked of_bits of_int ne
f2_below = dependency 1 f2_first refl

-- three pairs are within the limit
pub f2_complete : (selected_answer (selection_of f2-call)).status ≡ Complete
unfolding any sum_to picked select cell_count of_int of_bits ne reach member requested
f2_complete = f2_reads.complete.1 (lit≤ tt)

pub f2_answer : selected_answer (selection_of f2-call) ≡ diagnosis 1 3 3 3 Complete
unfolding any sum_to picked select cell_count of_int of_bits ne factor_pairs reach member requested diagnosis_of
f2_answer = refl

-- so the lookup of (1, 0), and of (0, 1), gives a number equal to -2
f2_reads_below : (v : Float) × (f2_found (selection_of f2-call) 1 0 ≡ answered v) × Whole v (negsuc 1)
f2_reads_below = f2_reads.members f2_complete 1 0 f2_below

f2_reads_exchanged : (v : Float) × (f2_found (selection_of f2-call) 0 1 ≡ answered v) × Whole v (negsuc 1)
f2_reads_exchanged = f2_reads.members f2_complete 0 1 f2_below

-- and that of (2, 0), which is in no set of F2's pairs, 8
f2_reads_outside : f2_found (selection_of f2-call) 2 0 ≡ refused 8
f2_reads_outside = f2_reads.others f2_complete 2 0 (λ p. let h = f2_lower cholesky _ 3 (room_of f2_lent) f2_accepted 2 0 p in omega (arith, h.1))

-- ---- the same call, by the laws that the theorem is made of
-- `exact_inverse`, `exact_symmetric`: there is an inverse, and f2_matrix is symmetric
f2_has_inverse : (X : Matrix) × WholeInverse 2 (factor ones f2_entries) X
f2_has_inverse = exact_inverse (selection_of f2-call) f2_lent f2_accepted f2_entries f2-call_exact

f2-symmetric : f2_matrix 0 1 ≡ f2_matrix 1 0
f2-symmetric = exact_symmetric (selection_of f2-call) f2_lent f2_accepted f2_entries f2-call_exact f2_matrix f2-inverse 0 1 (lit< tt) (lit< tt)

-- `reads_recurrence`, demand 2: the lookup of (1, 0) gives the recurrence's float
pub f2_recurs : f2_found (selection_of f2-call) 1 0 ≡ answered (neg (whole 2))
unfolding picked select of_int of_bits ne add sub mul div neg float_table
f2_recurs = (reads_recurrence (selection_of f2-call) f2_lent f2_accepted (selected_steps f2-call (room_of f2_lent)) f2_passed f2_left).members f2_complete 1 0 f2_below

-- `found_within`: so does the lookup that checks no column
f2_found_within : lookup_within f2_starts f2_rows f2_result 1 0 ≡ answered (neg (whole 2))
f2_found_within =
    found_within (selection_of f2-call) f2_lent f2_accepted (selected_steps f2-call (room_of f2_lent)) f2_passed f2_left ((selected_complete_lem (selection_of f2-call)).0 f2_complete) 1 0
    ∙ f2_recurs

-- `selected_counts`: (1, 0) has the number 1, below the size 3
f2_numbered : (position 2 (selected_set (selection_of f2-call)) 1 0 ≡ 1) × (1 < selected_size (selection_of f2-call))
unfolding any sum_to picked select cell_count of_int of_bits ne reach member requested
f2_numbered = (refl, (selected_counts (selection_of f2-call) f2_lent f2_accepted).below 1 0 f2_below)

-- `selected_numbers_lem`: its diagonals are above 0.0
f2_positive : lt f0 (diag f2_starts f2_rows f2_values 0) ≡ true
f2_positive = (selected_numbers_lem 2 f2_starts f2_rows f2_values (requested (0 ∷ []) (0 ∷ [])) 3 (room_of f2_lent) f2_accepted).diagonal_positive 0 (lit< tt)

-- ---- the request (1, 1) alone: (1, 0) is not in its closed set, and reads back as 8
abbrev f2_last : Call
f2_last = call 2 f2_starts f2_rows f2_values 2 (1 ∷ []) (1 ∷ []) 3

f2_last_passed : Passed (selected_steps f2_last (room_of f2_lent))
unfolding any any_in of_int of_bits ne le first pair_total bit_words scratch_words bound_steps broken_steps starts_steps rows_steps column_steps finite_steps stored_steps request_steps
    diagonal_steps room_steps selected_steps
f2_last_passed = refl

f2_last_accepted : Accepted (selection_of f2_last) (room_of f2_lent)
f2_last_accepted = accepted f2_last (room_of f2_lent) f2_last_passed

f2_last_lacks : InClosedSet (selection_of f2_last) 1 0 → ⊥
unfolding any select picked of_int of_bits ne reach member requested
f2_last_lacks p =
    true≢false (sym (needed_member 2 _ (requested (1 ∷ []) (1 ∷ [])) (factor_pattern (nonzero f2_values) f2_last_accepted.factor) f2_last_accepted.requests p))

f2_last_reads : {left : Lent} → ResultLists (selected_steps f2_last (room_of f2_lent)) (filling_of (selection_of f2_last)) f2_lent left
    → found (selection_of f2_last) left 1 0 ≡ refused 8
unfolding any sum_to picked select cell_count of_int of_bits ne reach member requested
f2_last_reads L =
    let E = f2_exact cholesky _ 3 (room_of f2_lent) f2_last_accepted f2_diagonals in
    let R = exact_call f2_last f2_lent f2_last_passed f2_entries E f2_matrix f2-inverse L in
    R.others (R.complete.1 (lit≤ tt)) 1 0 f2_last_lacks

-- ---- F2 with the pivots 1 and 1: of L * D * Lᵀ, which is L * Lᵀ
abbrev f2_pivots : List Float
f2_pivots = whole 1 ∷ whole 1 ∷ []

abbrev f2-pivoted : Selection
f2-pivoted = selecting (pivoted f2_pivots) (factor_lists 2 f2_starts f2_rows f2_values) (requested (0 ∷ []) (0 ∷ [])) 3

f2_pivots_one : Pivots 2 f2_pivots
unfolding of_int of_bits le
f2_pivots_one = record {
  long = refl;
  finite_pivot = columns₂ (λ c. finite (value f2_pivots c) ≡ true) refl refl;
  positive = columns₂ (λ c. le (value f2_pivots c) f0 ≡ false) refl refl;
}

f2-pivoted_accepted : Accepted f2-pivoted (room_of f2_lent)
f2-pivoted_accepted =
    let A = f2_accepted in
    record {
      small = A.small;
      few = A.few;
      factor = A.factor;
      finite = A.finite;
      requests = A.requests;
      diagonals = f2_pivots_one;
      starts_room = A.starts_room;
      rows_room = A.rows_room;
      values_room = A.values_room;
      scratch_room = A.scratch_room;
    }

f2-pivoted_exact : ExactCall f2-pivoted f2_entries
unfolding of_int
f2-pivoted_exact =
    f2_exact (pivoted f2_pivots) (requested (0 ∷ []) (0 ∷ [])) 3 (room_of f2_lent) f2-pivoted_accepted (columns₂ (λ j. Whole (value f2_pivots j) (pos 1)) refl refl)

-- `exact_at`: the entry at (0, 0), which is 1 / 1 - 2 * -2, is 5
f2-pivoted_first : Whole (selected_table f2-pivoted 0 0) (pos 5)
f2-pivoted_first = exact_at f2-pivoted f2_lent f2-pivoted_accepted f2_entries f2-pivoted_exact f2_matrix f2-inverse 0 0 f2_first
