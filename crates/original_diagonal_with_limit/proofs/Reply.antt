-- The reply and the lists of a call, refused, uncovered or answered; and the diagonal as the first entry of each column.
-- Assumes nothing.
use Prim.Native.Nat.{ℕ, ◌+◌, ◌≤◌, ◌<◌}
use native.Mathlib.Omega.{arith}
use native.Mathlib.Nat.{le_refl}
use mathlib.Core.Path.{◌≡◌, sym, ap, ap₂, subst, ◌∙◌}
use mathlib.Core.Bool.{true, false, not}
use mathlib.Core.List.{List, [], ◌∷◌, ◌++◌}
use lib.ListN.{length, get_or}
use lib.Ieee.{Float, nan}
use borrow.Author.Tests.{leb-true}
use Rattle.lists.specs.Tabulate.{tabulate, tabulate_at, tabulate_cong}
use Rattle.lists.specs.Overwrite.{overwrite, overwrite_at, overwrite-length}
use Rattle.refusal.specs.Steps.{Step, answered, refused, verdict, Passed}
use Rattle.refusal.proofs.Steps.{append-refused, append_passed, first_hit, first_skip, first_end, first_passed}
use Rattle.refusal.proofs.Steps.{after_refused, after_passed}
use Rattle.refusal.specs.Refusal.{refusal_number}
use Rattle.refusal.specs.declared.Refusal.{Refusal}
use Rattle.refusal.specs.declared.Refusal.TheVariants.{NotCovered}
use Rattle.columns.specs.Kept.{nonzero}
use Rattle.closed_set.proofs.ClosedSet.{member_holds}
use Rattle.closed_set.proofs.Size.{closure_size_most}
use Rattle.closed_set.proofs.FactorPattern.{factor_pattern}
use Rattle.entries.specs.Entries.{column_count, position, entry_starts, entry_values}
use Rattle.entries.proofs.Entries.{entry_starts-length, entry_values-length}
use Rattle.entries.proofs.Position.{position_first, position_below, entry_values_at}
use Rattle.factor_order.specs.Permutation.{index, reordered}
use Rattle.diagnostics.specs.declared.SelectedInverseDiagnostics.{SelectedInverseDiagnostics}
use Rattle.selection.specs.Selection.{selected_pattern, Selection, Lent, room_of, selected_set, selected_size, selected_complete, selected_answer, selected_table, filling_of}
use Rattle.selection.specs.Selection.{ResultLists}
use Rattle.selection.proofs.Selection.{lists_refused, complete_starts, complete_values}
use Rattle.request_marks.proofs.DiagonalMarks.{diagonal_requested, diagonals_ranged}
use Rattle.original_diagonal_with_limit.specs.Original.{OriginalCall, original_selection, original_steps, factor_diagonal, OriginalDiagonal, WriteOriginalInput, first_entries}
use Rattle.original_diagonal_with_limit.specs.Original.{AcceptedOriginal, original_inside}
use Rattle.std.specs.Prelude.{Ok, Err}

module _ (x : OriginalCall) (lent : Lent) (output : List Float) where
  abbrev steps : List Step
  steps = original_steps x (room_of lent) (length output)

  abbrev sel : Selection
  sel = original_selection x

  abbrev eight : List Step
  eight = (8, not (selected_complete sel)) ∷ []

  -- ---- refused
  pub original_refused : {why : Refusal} → verdict steps ≡ refused (refusal_number why)
      → OriginalDiagonal x lent output (Err why) lent output
  original_refused e = record {
    replies = sym (append-refused steps eight _ (selected_answer sel) e);
    lists_are = lists_refused steps (filling_of sel) lent e;
    output_is = sym (after_refused (steps ++ eight) _ _ output (append-refused steps eight _ tt e));
  }

  module _ (passed : Passed steps) {left : Lent} (L : ResultLists steps (filling_of sel) lent left) where
    -- ---- the set is beyond the limit
    pub original_large : selected_complete sel ≡ false → OriginalDiagonal x lent output (Err NotCovered) left output
    original_large large = record {
      replies = sym (append_passed steps eight (selected_answer sel) passed ∙ first_hit 8 [] (selected_answer sel) (ap not large));
      lists_are = L;
      output_is = sym (after_refused (steps ++ eight) 8 _ output (append_passed steps eight tt passed ∙ first_hit 8 [] tt (ap not large)));
    }

    -- ---- within the limit
    module _ (A : AcceptedOriginal x (room_of lent) (length output)) (complete : selected_complete sel ≡ true) where
      within : selected_size sel ≤ sel.limit
      within = leb-true _ _ complete

      size : selected_size sel ≤ length lent.result_values
      size =
          omega (arith, within, closure_size_most x.factor.n (selected_pattern sel) sel.requests, A.accepted.values_room)

      starts_are : left.result_starts ≡ overwrite (entry_starts x.factor.n (selected_set sel)) lent.result_starts
      starts_are = complete_starts steps (filling_of sel) lent passed L complete

      values_are : left.result_values ≡ overwrite (entry_values x.factor.n (selected_set sel) (selected_table sel)) lent.result_values
      values_are = complete_values steps (filling_of sel) lent passed L complete

      module _ (j : ℕ) (l : j < x.factor.n) where
        start_is : index left.result_starts j ≡ column_count x.factor.n (selected_set sel) j
        start_is =
            ap (λ (q : List ℕ). get_or q j 0) starts_are
            ∙ overwrite_at (entry_starts x.factor.n (selected_set sel)) lent.result_starts j 0 (omega (arith, entry_starts-length x.factor.n (selected_set sel)))
            ∙ tabulate_at (column_count x.factor.n (selected_set sel)) (x.factor.n + 1) j 0 (omega arith)

        covered : selected_set sel j j ≡ true
        covered =
            member_holds x.factor.n (selected_pattern sel) sel.requests
            (factor_pattern (nonzero x.factor.values) A.accepted.factor) (diagonals_ranged x.factor.n) j j (diagonal_requested x.factor.n j l)

        place : index left.result_starts j ≡ position x.factor.n (selected_set sel) j j
        place = start_is ∙ sym (position_first x.factor.n (selected_set sel) j)

        place_below : index left.result_starts j < selected_size sel
        place_below =
            subst (λ (k : ℕ). k < selected_size sel) (sym place)
            (position_below x.factor.n (selected_set sel) j j x.factor.n (le_refl j) l l covered)

        -- the first entry of a column is its diagonal
        first_is : get_or left.result_values (index left.result_starts j) nan ≡ selected_table sel j j
        first_is =
            ap₂ (λ (v : List Float) (k : ℕ). get_or v k nan) values_are place
            ∙ overwrite_at (entry_values x.factor.n (selected_set sel) (selected_table sel)) lent.result_values (position x.factor.n (selected_set sel) j j) nan
            (omega (arith, place, place_below, entry_values-length x.factor.n (selected_set sel) (selected_table sel)))
            ∙ entry_values_at x.factor.n (selected_set sel) (selected_table sel) nan j j (le_refl j) l covered

      inside : (i : ℕ) → i < x.factor.n → index x.perm i < x.factor.n
      inside = original_inside A

      pub original_input : WriteOriginalInput x.factor.n x.perm left.result_starts left.result_values output
      original_input = record {
        long = A.long;
        room = A.room;
        columns = λ i l. omega (arith, inside i l, A.accepted.starts_room, starts_long);
        places = λ i l. omega (arith, place_below (index x.perm i) (inside i l), size, values_long);
      }
        where
          starts_long : length left.result_starts ≡ length lent.result_starts
          starts_long =
              ap length starts_are
              ∙ overwrite-length (entry_starts x.factor.n (selected_set sel)) lent.result_starts
              (omega (arith, entry_starts-length x.factor.n (selected_set sel), A.accepted.starts_room))

          values_long : length left.result_values ≡ length lent.result_values
          values_long =
              ap length values_are
              ∙ overwrite-length (entry_values x.factor.n (selected_set sel) (selected_table sel)) lent.result_values
              (omega (arith, entry_values-length x.factor.n (selected_set sel) (selected_table sel), size))

      written : first_entries x.factor.n x.perm left.result_starts left.result_values ≡ reordered nan x.perm (factor_diagonal x)
      unfolding reordered
      written =
          tabulate_cong (λ i. get_or left.result_values (index left.result_starts (index x.perm i)) nan) (λ i. get_or (factor_diagonal x) (index x.perm i) nan) x.factor.n
          (λ i l. first_is (index x.perm i) (inside i l)
          ∙ sym (tabulate_at (λ j. selected_table sel j j) x.factor.n (index x.perm i) nan (inside i l)))
          ∙ ap (tabulate (λ i. get_or (factor_diagonal x) (index x.perm i) nan)) (sym A.long)

      pub original_done : {d : SelectedInverseDiagnostics} {out : List Float} → d ≡ selected_answer sel → out ≡ overwrite (first_entries x.factor.n x.perm left.result_starts left.result_values) output
          → OriginalDiagonal x lent output (Ok d) left out
      original_done {d} {out} e w = record {
        replies = ap (λ (y : SelectedInverseDiagnostics). answered y) e ∙ sym (first_passed (steps ++ eight) (selected_answer sel) all);
        lists_are = L;
        output_is =
            w ∙ ap (λ (l : List Float). overwrite l output) written
            ∙ sym (after_passed (steps ++ eight) (overwrite (reordered nan x.perm (factor_diagonal x)) output) output all);
      }
        where
          all : Passed (steps ++ eight)
          all = append_passed steps eight tt passed ∙ first_skip 8 [] tt (ap not complete) (first_end tt)
