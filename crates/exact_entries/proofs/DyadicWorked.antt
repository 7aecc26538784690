-- Laws of specs/DyadicWorked.antt.
use Rattle.std.specs.Prelude.{ℕ, ◌*◌, ◌^◌, ◌≤◌, ◌<◌, ◌≡◌, refl, Bool, false, ◌≢◌, List, [], ◌∷◌, ℤ, pos, negsuc, nat_abs, ◌*ℤ◌, Float}
use Rattle.std.proofs.Common.{arith, one-mul, sym, ap, ◌∙◌, lit≤, lit<, pow_pos, pow_mono}
use Rattle.std.proofs.Math.IntN.{zero-*ℤ}
use Rattle.std.specs.Float.{fin}
use Rattle.std.specs.Float.Ieee.{of_bits, of_int, ne, le, add, sub, mul, div, neg}
use Rattle.lists.specs.Test.{any, any_in}
use Rattle.lists.specs.Select.{select, picked}
use Rattle.lists.specs.Sum.{sum_to}
use Rattle.lists.specs.Cells.{cells, cell_count}
use Rattle.lists.specs.Tabulate.{tabulate}
use Rattle.lists.specs.Overwrite.{overwrite, filled}
use Rattle.refusal.specs.Steps.{refused, answered, Passed, first}
use Rattle.bits.specs.Bits.{bit_words}
use Rattle.pairs.specs.Pair.{pair_total}
use Rattle.pairs.specs.Scratch.{scratch_words}
use Rattle.columns.specs.Columns.{bound_steps, broken_steps, starts_steps, rows_steps, column_steps, factor_lists}
use Rattle.columns.specs.Stored.{finite_steps, stored_steps}
use Rattle.columns.specs.Diagonal.{diagonal_steps}
use Rattle.columns.specs.Kept.{nonzero, diag, desc, factor_pairs}
use Rattle.columns.specs.Examples.{f2_starts, f2_rows}
use Rattle.integers.proofs.Integer.{*ℤ-cancel-r, *ℤ-nonzero, nat_abs_*, nat_abs_pos, products}
use Rattle.integers.specs.Matrix.{Matrix}
use Rattle.integers.specs.Inverse.{Inverse}
use Rattle.takahashi.specs.Entries.{Entry}
use Rattle.takahashi.specs.Recurrence.{Lower}
use Rattle.exact.specs.Multiple.{Multiple}
use Rattle.exact.proofs.Rounding.{unit_nonzero}
use Rattle.exact.specs.Exact.{Alike}
use Rattle.exact.specs.Factor.{factor}
use Rattle.exact.specs.ExactCase.{ones, unit_table}
use Rattle.exact.specs.Examples.{f2_entries, sixteenths-diag, sixteenths, sixteenths-z, sixteenths_matrix}
use Rattle.exact.proofs.Examples.{columns₂, sixteenths_recurs, sixteenths_bounded, sixteenths-inverse}
use Rattle.closed_set.specs.ClosedSet.{reach, member, request, dependency}
use Rattle.closed_set.proofs.ClosedSet.{needed_range}
use Rattle.closed_set.specs.Requests.{requested}
use Rattle.closed_set.proofs.FactorPattern.{factor_pattern}
use Rattle.entries.specs.Entries.{float_table}
use Rattle.selection.specs.RequestSteps.{request_steps}
use Rattle.diagnostics.specs.Diagnosis.{diagnosis}
use Rattle.diagnostics.specs.declared.SelectedInverseStatus.TheVariants.{Complete}
use Rattle.selection.specs.Diagnosis.{diagnosis_of}
use Rattle.selection.specs.Selection.{Selection, selection, selected_answer, selected_table, default_limit, Room, Lent, room_of, room_steps, Accepted, ResultLists, filling_of}
use Rattle.selection.proofs.Selection.{lists_passed}
use Rattle.selection.specs.Call.{Call, call, selection_of, selected_steps}
use Rattle.selection.proofs.Call.{accepted}
use Rattle.exact_entries.specs.Recurrence.{InClosedSet}
use Rattle.exact_entries.specs.DyadicEntries.{DyadicCall, ReadsMultiples}
use Rattle.exact_entries.proofs.DyadicEntries.{dyadic_inverse, dyadic_call}
use Rattle.exact_entries.proofs.ExactEntries.{exact_dyadic}
use Rattle.exact_entries.specs.Worked.{f2_lent, f2-call}
use Rattle.exact_entries.proofs.Worked.{f2_accepted, f2-call_exact}
use Rattle.exact_entries.specs.DyadicWorked.{sixteenths_values, sixteenths_factor, SixteenthsLeft, sixteenths_found, SixteenthsRead, sixteenths-call}

diagonals_are : (j : ℕ) → j < 2 → Multiple 4 (diag f2_starts f2_rows sixteenths_values j) (sixteenths-diag j)
unfolding select picked of_bits of_int ne
diagonals_are = columns₂ (λ j. Multiple 4 (diag f2_starts f2_rows sixteenths_values j) (sixteenths-diag j)) refl refl

entries_are : (j : ℕ) → j < 2 → Alike 4 (desc f2_starts f2_rows sixteenths_values j) (sixteenths j)
unfolding select picked of_bits of_int ne
entries_are = columns₂ (λ j. Alike 4 (desc f2_starts f2_rows sixteenths_values j) (sixteenths j)) (refl, refl, tt) tt

-- an accepted call meets the hypotheses, whatever its requests and limit
module _ (req : ℕ → ℕ → Bool) (limit : ℕ) (lengths : Room) (A : Accepted (selection sixteenths_factor req limit) lengths) where
  lower : (i j : ℕ) → InClosedSet (selection sixteenths_factor req limit) i j → Lower 2 i j
  lower i j p = needed_range _ _ 2 (factor_pattern (nonzero sixteenths_values) A.factor) A.requests p

  pub sixteenths_dyadic : DyadicCall (selection sixteenths_factor req limit) 4 sixteenths-diag sixteenths sixteenths-z
  sixteenths_dyadic = record {
    form_is = refl;
    scale = lit≤ tt;
    diagonals = diagonals_are;
    entries = entries_are;
    recurs = record {
      below_is = λ i j p ji. sixteenths_recurs.below_is i j (lower i j p) ji;
      diagonal_is = λ j p. sixteenths_recurs.diagonal_is j (lower j j p);
    };
    bounded = record {
      entry = λ i j p. sixteenths_bounded.entry i j (lower i j p);
      product_below = λ i j p ji. sixteenths_bounded.product_below i j (lower i j p) ji;
      sum_below = λ i j p ji. sixteenths_bounded.sum_below i j (lower i j p) ji;
      product_diagonal = λ j p. sixteenths_bounded.product_diagonal j (lower j j p);
      sum_diagonal = λ j p. sixteenths_bounded.sum_diagonal j (lower j j p);
      square = λ j p. sixteenths_bounded.square j (lower j j p);
      reciprocal = λ j p. sixteenths_bounded.reciprocal j (lower j j p);
      quotient = λ j p. sixteenths_bounded.quotient j (lower j j p);
    };
  }

pub sixteenths_passed : Passed (selected_steps sixteenths-call (room_of f2_lent))
unfolding any any_in of_int of_bits ne le first pair_total bit_words scratch_words bound_steps broken_steps starts_steps rows_steps column_steps finite_steps stored_steps request_steps
    diagonal_steps room_steps selected_steps
sixteenths_passed = refl

pub sixteenths_accepted : Accepted (selection_of sixteenths-call) (room_of f2_lent)
sixteenths_accepted = accepted sixteenths-call (room_of f2_lent) sixteenths_passed

pub sixteenths-call_dyadic : DyadicCall (selection_of sixteenths-call) 4 sixteenths-diag sixteenths sixteenths-z
sixteenths-call_dyadic = sixteenths_dyadic _ 3 (room_of f2_lent) sixteenths_accepted

-- the lists that it leaves
pub sixteenths_left : SixteenthsLeft (selected_steps sixteenths-call (room_of f2_lent)) (selection_of sixteenths-call)
unfolding any any_in sum_to picked select cells cell_count tabulate filled overwrite of_int of_bits ne add sub mul div neg pair_total bit_words scratch_words reach member requested float_table
sixteenths_left = lists_passed (selected_steps sixteenths-call (room_of f2_lent)) (filling_of (selection_of sixteenths-call)) f2_lent sixteenths_passed refl refl refl refl

-- `dyadic_inverse`: there is an inverse
sixteenths_has_inverse : (P : Matrix) × (Q : ℕ) × Inverse 2 (pos 16) (factor sixteenths-diag sixteenths) P Q
sixteenths_has_inverse =
    dyadic_inverse (selection_of sixteenths-call) f2_lent sixteenths_accepted 4 sixteenths-diag sixteenths sixteenths-z sixteenths-call_dyadic

-- `dyadic_call`
pub sixteenths_reads : SixteenthsRead (selection_of sixteenths-call)
sixteenths_reads =
    dyadic_call sixteenths-call f2_lent sixteenths_passed 4 sixteenths-diag sixteenths sixteenths-z sixteenths-call_dyadic sixteenths_matrix 16 sixteenths-inverse sixteenths_left

-- (0, 0) is requested, and (1, 0) is a dependency of it
sixteenths_first : InClosedSet (selection_of sixteenths-call) 0 0
unfolding any requested
sixteenths_first = request refl

pub sixteenths_below : InClosedSet (selection_of sixteenths-call) 1 0
unfolding any select picked of_bits of_int ne
sixteenths_below = dependency 1 sixteenths_first refl

-- three pairs are within the limit
pub sixteenths_complete : (selected_answer (selection_of sixteenths-call)).status ≡ Complete
unfolding any sum_to picked select cell_count of_int of_bits ne reach member requested
sixteenths_complete = sixteenths_reads.complete.1 (lit≤ tt)

pub sixteenths_answer : selected_answer (selection_of sixteenths-call) ≡ diagnosis 1 3 3 3 Complete
unfolding any sum_to picked select cell_count of_int of_bits ne factor_pairs reach member requested diagnosis_of
sixteenths_answer = refl

-- so the lookup of (1, 0), and of (0, 1), gives a number equal to -3 / 16, and -3 * 16 = 16 * -3 says that it is the inverse's
sixteenths_reads_below : (v : Float) × (sixteenths_found (selection_of sixteenths-call) 1 0 ≡ answered v) × Multiple 4 v (negsuc 2) × (negsuc 2 *ℤ pos 16 ≡ pos 16 *ℤ negsuc 2)
sixteenths_reads_below = sixteenths_reads.members sixteenths_complete 1 0 sixteenths_below

sixteenths_reads_exchanged : (v : Float) × (sixteenths_found (selection_of sixteenths-call) 0 1 ≡ answered v) × Multiple 4 v (negsuc 2) × (negsuc 2 *ℤ pos 16 ≡ pos 16 *ℤ negsuc 2)
sixteenths_reads_exchanged = sixteenths_reads.members sixteenths_complete 0 1 sixteenths_below

-- and that of (2, 0), which is in no set of the factor's pairs, 8
sixteenths_reads_outside : sixteenths_found (selection_of sixteenths-call) 2 0 ≡ refused 8
sixteenths_reads_outside = sixteenths_reads.others sixteenths_complete 2 0 (λ p. let h = lower _ 3 (room_of f2_lent) sixteenths_accepted 2 0 p in omega (arith, h.1))

-- ---- the same with the default limit, 30
abbrev sixteenths_default : Call
sixteenths_default = call 2 f2_starts f2_rows sixteenths_values 2 (0 ∷ []) (0 ∷ []) (default_limit f2_rows)

sixteenths_default_passed : Passed (selected_steps sixteenths_default (room_of f2_lent))
unfolding any any_in of_int of_bits ne le first pair_total bit_words scratch_words bound_steps broken_steps starts_steps rows_steps column_steps finite_steps stored_steps request_steps
    diagonal_steps room_steps selected_steps
sixteenths_default_passed = refl

sixteenths_default_reads : {left : Lent} → ResultLists (selected_steps sixteenths_default (room_of f2_lent)) (filling_of (selection_of sixteenths_default)) f2_lent left
    → ReadsMultiples (selection_of sixteenths_default) left 4 sixteenths-z sixteenths_matrix 16
sixteenths_default_reads =
    dyadic_call sixteenths_default f2_lent sixteenths_default_passed 4 sixteenths-diag sixteenths sixteenths-z
    (sixteenths_dyadic _ 30 (room_of f2_lent) (accepted sixteenths_default (room_of f2_lent) sixteenths_default_passed)) sixteenths_matrix 16 sixteenths-inverse

-- ---- `exact_dyadic`: F2, whose exact case it is with s = 0
f2_dyadic : DyadicCall (selection_of f2-call) 0 ones f2_entries (unit_table 2 f2_entries)
f2_dyadic = exact_dyadic (selection_of f2-call) f2_lent f2_accepted f2_entries f2-call_exact refl

-- ---- one column with the diagonal 2 ^ -26 and the request (0, 0): its entry 1 / (d * d) is 2 ^ 52, which f64 gives exactly
abbrev narrow : ℕ → Selection
narrow = selection (factor_lists 1 (0 ∷ 1 ∷ []) (0 ∷ []) (fin false 1 (negsuc 25) ∷ [])) (requested (0 ∷ []) (0 ∷ []))

narrow_entry : selected_table (narrow 1) 0 0 ≡ fin false 1 (pos 52)
unfolding select picked of_bits ne sub mul div neg float_table
narrow_entry = refl

-- but no s covers it: s is at least 26 for d to be a multiple of 2 ^ -s, and then the multiplier of 2 ^ 52 is at least 2 ^ 78. For d = m / 2 ^ s with
-- m * 2 ^ 26 = 2 ^ s it is m * 2 ^ 78
reciprocal_is : (c m r k : ℤ) → c ≡ m *ℤ k → c ≢ pos 0 → r *ℤ (m *ℤ m) ≡ c *ℤ c *ℤ c → r ≡ m *ℤ (k *ℤ k *ℤ k)
reciprocal_is c m r k e c0 h = *ℤ-cancel-r r (m *ℤ (k *ℤ k *ℤ k)) (m *ℤ m) (*ℤ-nonzero m m m0 m0) (h ∙ ap (λ (x : ℤ). x *ℤ x *ℤ x) e ∙ w m k)
  where
    m0 : m ≢ pos 0
    m0 q = c0 (e ∙ ap (λ (x : ℤ). x *ℤ k) q ∙ zero-*ℤ k)

    w : (m k : ℤ) → m *ℤ k *ℤ (m *ℤ k) *ℤ (m *ℤ k) ≡ m *ℤ (k *ℤ k *ℤ k) *ℤ (m *ℤ m)
    w m k = simp products

narrow-uncovered : (limit s : ℕ) (d : ℕ → ℤ) (l : ℕ → List (Entry ℤ)) (z : Matrix) → DyadicCall (narrow limit) s d l z → ⊥
unfolding any select picked of_bits ne requested
narrow-uncovered limit s d l z E =
    let e : pos (2 ^ s) ≡ d 0 *ℤ pos (2 ^ 26) = sym (ap pos (one-mul (2 ^ s))) ∙ E.diagonals 0 (lit< tt) in
    let R = E.bounded.reciprocal 0 (request refl) in
    let q = ap nat_abs (reciprocal_is (pos (2 ^ s)) (d 0) R.0 (pos (2 ^ 26)) e (unit_nonzero s) R.1) ∙ nat_abs_* (d 0) (pos (2 ^ 78)) in
    let above : 0 < nat_abs (d 0) = nat_abs_pos (d 0) (λ z. unit_nonzero s (e ∙ ap (λ (x : ℤ). x *ℤ pos (2 ^ 26)) z ∙ zero-*ℤ (pos (2 ^ 26)))) in
    beyond (nat_abs R.0) (nat_abs (d 0)) q above R.2
  where
    beyond : (r m : ℕ) → r ≡ m * 2 ^ 78 → 0 < m → r ≤ 2 ^ 53 → ⊥
    beyond r m q h b = omega arith

-- ---- one column with the diagonal 2 ^ -54, whatever is requested: it is a multiple of 2 ^ -s for no s up to 53
abbrev finer : (ℕ → ℕ → Bool) → ℕ → Selection
finer = selection (factor_lists 1 (0 ∷ 1 ∷ []) (0 ∷ []) (fin false 1 (negsuc 53) ∷ []))

finer-uncovered : (req : ℕ → ℕ → Bool) (limit s : ℕ) (d : ℕ → ℤ) (l : ℕ → List (Entry ℤ)) (z : Matrix) → DyadicCall (finer req limit) s d l z → ⊥
unfolding select picked of_bits ne
finer-uncovered req limit s d l z E =
    let q = ap nat_abs (sym (ap pos (one-mul (2 ^ s))) ∙ E.diagonals 0 (lit< tt)) ∙ nat_abs_* (d 0) (pos (2 ^ 54)) in
    beyond (2 ^ s) (nat_abs (d 0)) q (pow_pos s) (pow_mono E.scale)
  where
    beyond : (c m : ℕ) → c ≡ m * 2 ^ 54 → 0 < c → c ≤ 2 ^ 53 → ⊥
    beyond c m q h b = omega arith
