-- The lists of a call within the limit: they can be read, and the row pairs' values that stand in them are the table's.
-- Assumes nothing.
use Prim.Native.Nat.{ℕ, ◌≤◌}
use native.Mathlib.Omega.{arith}
use mathlib.Core.Path.{◌≡◌, ap, ◌∙◌}
use mathlib.Core.Bool.{true}
use mathlib.Core.List.{List}
use lib.ListN.{length}
use lib.Ieee.{Float, nan}
use borrow.Author.Tests.{leb-true}
use Rattle.lists.specs.Overwrite.{overwrite, cleared}
use Rattle.refusal.specs.Steps.{Step, Passed}
use Rattle.pairs.proofs.Scratch.{scratch_words_room}
use Rattle.pairs.specs.Positions.{inverse_at}
use Rattle.columns.specs.Kept.{nonzero, pattern}
use Rattle.closed_set.specs.ClosedSet.{Holds}
use Rattle.closed_set.proofs.ClosedSet.{member_holds}
use Rattle.closed_set.proofs.Size.{closure_size_most}
use Rattle.closed_set.proofs.FactorPattern.{factor_pattern}
use Rattle.entries.specs.Entries.{entry_values}
use Rattle.entries.specs.Position.{Positioned}
use Rattle.selection.specs.Selection.{Selection, Lent, room_of, scratch_words, selected_set, selected_size, selected_complete, selected_table, lists, filling_of}
use Rattle.selection.specs.Selection.{ResultLists}
use Rattle.selection.proofs.Selection.{complete_values}
use Rattle.quadratic_form.specs.RowValue.{row_pair_values}
use Rattle.operator_values.specs.Reading.{RowPairValuesInput}
use Rattle.operator_values.proofs.Filled.{filled_pairs_reading, filled_pairs_values}
use Rattle.covariances_with_limit.specs.Covariances.{CovarianceCall, covariance_selection, covariance_steps, covariance_values, AcceptedCovariances}

module _ (x : CovarianceCall) (lent : Lent) (output : List Float) where
  abbrev steps : List Step
  steps = covariance_steps x (room_of lent) (length output)

  abbrev sel : Selection
  sel = covariance_selection x

  -- ---- within the limit, with the scratch still to clear
  module _ (passed : Passed steps) {rs rr : List ℕ} {rv : List Float} (mid : List ℕ)
      (L : ResultLists steps (filling_of sel) lent (lists rs rr rv (cleared (scratch_words x.factor.n) mid)))
      (A : AcceptedCovariances x (room_of lent) (length output)) (complete : selected_complete sel ≡ true)
      (P : Positioned x.factor.n (selected_set sel) mid) where
    abbrev pat : ℕ → List ℕ
    pat = pattern x.factor.starts x.factor.rows (nonzero x.factor.values)

    within : selected_size sel ≤ sel.limit
    within = leb-true _ _ complete

    values_fit : selected_size sel ≤ length lent.result_values
    values_fit = omega (arith, within, closure_size_most x.factor.n pat sel.requests, A.accepted.values_room)

    holds : Holds sel.requests (selected_set sel)
    holds = member_holds x.factor.n pat sel.requests (factor_pattern (nonzero x.factor.values) A.accepted.factor) A.accepted.requests

    values_are : rv ≡ overwrite (entry_values x.factor.n (selected_set sel) (selected_table sel)) lent.result_values
    values_are = complete_values steps (filling_of sel) lent passed L complete

    pub covariance_reading : length mid ≡ length lent.scratch
        → RowPairValuesInput x.factor.n x.a.row_starts x.a.columns (length x.a.weights) x.b.row_starts x.b.columns (length x.b.weights) x.a_rows x.b_rows
        mid (length rv) (length output)
    covariance_reading long =
        rw values_are
        (filled_pairs_reading x.factor.n (selected_set sel) (selected_table sel) mid lent.result_values values_fit P
        x.a.row_starts x.a.columns x.a.weights x.b.row_starts x.b.columns x.b.weights x.a_rows x.b_rows
        A.operators holds (length output) A.accepted.small (omega (arith, scratch_words_room x.factor.n A.accepted.scratch_room)) A.room)

    pub covariance_written : row_pair_values x.a.row_starts x.a.columns x.a.weights x.b.row_starts x.b.columns x.b.weights x.a_rows x.b_rows (inverse_at nan x.factor.n mid rv) ≡ covariance_values x
    covariance_written =
        ap (λ (v : List Float). row_pair_values x.a.row_starts x.a.columns x.a.weights x.b.row_starts x.b.columns x.b.weights x.a_rows x.b_rows (inverse_at nan x.factor.n mid v)) values_are
        ∙ filled_pairs_values x.factor.n (selected_set sel) (selected_table sel) mid lent.result_values values_fit P
        x.a.row_starts x.a.columns x.a.weights x.b.row_starts x.b.columns x.b.weights x.a_rows x.b_rows
        A.operators holds
