-- The diagonal of the inverse in original order with a limit: what a call is handed, what it refuses in its order, what it answers and leaves.
-- Assumes nothing.
use Rattle.std.specs.Prelude.{ℕ, ◌≤◌, ◌<◌, ◌≡◌, not, List, [], ◌∷◌, ◌++◌, eqb, length, get_or, Float, Result}
use Rattle.std.proofs.Common.{arith, ltb-false, eqb-true}
use Rattle.std.specs.Float.{nan}
use Rattle.std.proofs.lemmas.Bool.{not-false}
use Rattle.refusal.specs.Bounds.{output_steps}
use Rattle.lists.specs.Tabulate.{tabulate}
use Rattle.lists.specs.Overwrite.{overwrite}
use Rattle.refusal.specs.Steps.{Step, Reply, first, after, Passed}
use Rattle.refusal.proofs.Steps.{passed_clear, passed_front, passed_back}
use Rattle.refusal.specs.Groups.{grouped, AllPassed}
use Rattle.refusal.proofs.Groups.{groups_passed}
use Rattle.columns.specs.Columns.{FactorLists, factor_lists}
use Rattle.columns.specs.Stored.{factor_steps}
use Rattle.columns.proofs.Stored.{factor_steps_bounded, factor_steps_stored}
use Rattle.factor_order.specs.Permutation.{index, order_steps, permutation_steps, reordered, Permutation}
use Rattle.factor_order.proofs.Laws.{passed_distinct, distinct_permutation}
use Rattle.diagnostics.specs.declared.SelectedInverseDiagnostics.{SelectedInverseDiagnostics}
use Rattle.selection.specs.Selection.{Selection, selection, Lent, Room, room_of, fill_steps, selected_complete, selected_answer, selected_table, Accepted, filling_of}
use Rattle.selection.specs.Selection.{ResultLists}
use Rattle.selection.proofs.Call.{fill_accepted}
use Rattle.request_marks.specs.DiagonalMarks.{diagonal_pairs}
use Rattle.request_marks.proofs.DiagonalMarks.{diagonals_ranged}
use Rattle.refusal.specs.declared.Refusal.{Refusal}
use Rattle.refusal.specs.Refusal.{reply_of}

-- what a call is handed to read: a factor, a permutation, orig_to_perm, and a limit
pub record OriginalCall : Type 0 where
  pub factor : FactorLists Float
  pub perm : List ℕ
  pub limit : ℕ

-- a call, from a function's parameters in their order
abbrev pub original_call : ℕ → List ℕ → List ℕ → List Float → List ℕ → ℕ → OriginalCall
original_call n starts rows values perm limit = record { factor = factor_lists n starts rows values; perm = perm; limit = limit }

module _ (x : OriginalCall) where
  -- the requests are all diagonals
  abbrev pub original_selection : Selection
  original_selection = selection x.factor (diagonal_pairs x.factor.n) x.limit

  -- refusals 1, 2, 3, 18; 4, 10, 11; 6, 7; 7 of an output of that length
  abbrev pub original_groups : Room → ℕ → List (List Step)
  original_groups lengths output =
      factor_steps x.factor
      ∷ order_steps x.factor.n x.perm
      ∷ fill_steps x.factor x.limit lengths
      ∷ output_steps x.factor.n output
      ∷ []

  unfoldable pub original_steps : Room → ℕ → List Step
  original_steps lengths output = grouped (original_groups lengths output)

  -- then 8: the limit is passed
  abbrev pub covered_steps : Room → ℕ → List Step
  covered_steps lengths output = original_steps lengths output ++ ((8, not (selected_complete original_selection)) ∷ [])

  -- the reply
  abbrev pub original_reply : Lent → ℕ → Reply SelectedInverseDiagnostics
  original_reply lent output = first (covered_steps (room_of lent) output) (selected_answer original_selection)

  -- the diagonal, in factor order
  abbrev pub factor_diagonal : List Float
  factor_diagonal = tabulate (λ j. selected_table original_selection j j) x.factor.n

  -- the output afterwards: output i is the diagonal at orig_to_perm i
  abbrev pub original_after : Lent → List Float → List Float
  original_after lent output =
      after (covered_steps (room_of lent) (length output)) (overwrite (reordered nan x.perm factor_diagonal) output) output

-- the reply and the lists of a call
pub record OriginalDiagonal (x : OriginalCall) (lent : Lent) (output : List Float) (reply : Result SelectedInverseDiagnostics Refusal) (left : Lent) (out : List Float) : Type 0 where
  pub replies : reply_of reply ≡ original_reply x lent (length output)
  pub lists_are : ResultLists (original_steps x (room_of lent) (length output)) (filling_of (original_selection x)) lent left
  pub output_is : out ≡ original_after x lent output

-- ---- the first entry of each column, in original order

-- what is read: a list of starts and one of values at those places
pub record WriteOriginalInput (n : ℕ) (perm starts : List ℕ) (values output : List Float) : Type 0 where
  pub long : length perm ≡ n
  pub room : n ≤ length output
  pub columns : (i : ℕ) → i < n → index perm i < length starts
  pub places : (i : ℕ) → i < n → index starts (index perm i) < length values

abbrev pub first_entries : ℕ → List ℕ → List ℕ → List Float → List Float
first_entries n perm starts values = tabulate (λ i. get_or values (index starts (index perm i)) nan) n

-- ---- a call that passed

-- what it has
pub record AcceptedOriginal (x : OriginalCall) (lengths : Room) (output : ℕ) : Type 0 where
  pub accepted : Accepted (original_selection x) lengths
  pub order : Permutation x.perm
  pub long : length x.perm ≡ x.factor.n
  pub room : x.factor.n ≤ output

module _ (x : OriginalCall) (lengths : Room) (output : ℕ) (p : Passed (original_steps x lengths output)) where
  passed : AllPassed (original_groups x lengths output)
  unfolding original_steps
  passed = groups_passed (original_groups x lengths output) p

  pub original_accepted : AcceptedOriginal x lengths output
  original_accepted =
      let B = factor_steps_bounded x.factor passed.0 in
      let S = factor_steps_stored x.factor passed.0 in
      let four : List Step = (4, not (eqb (length x.perm) x.factor.n)) ∷ [] in
      let o = passed.1.0 in
      record {
        accepted = fill_accepted (original_selection x) lengths B S (diagonals_ranged x.factor.n) passed.1.1.0;
        order = distinct_permutation x.perm (passed_distinct x.perm (passed_back four (permutation_steps x.perm) o));
        long = eqb-true _ _ (not-false _ (passed_clear four (passed_front four (permutation_steps x.perm) o)).0);
        room = ltb-false _ _ (passed_clear (output_steps x.factor.n output) passed.1.1.1.0).0;
      }

-- its permutation's indices are below n
pub original_inside : {x : OriginalCall} {lengths : Room} {output : ℕ} → AcceptedOriginal x lengths output → (i : ℕ) → i < x.factor.n → index x.perm i < x.factor.n
original_inside A i l = omega (arith, A.order.inside i (omega (arith, A.long)), A.long)
