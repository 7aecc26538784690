-- A pattern list's input refused, and passed.
-- Assumes nothing.
use Prim.Native.Nat.{ℕ}
use mathlib.Core.Path.{◌≡◌, sym, ap, ◌∙◌}
use mathlib.Core.Bool.{Bool}
use mathlib.Core.List.{List, [], ◌∷◌}
use lib.ListN.{length}
use Rattle.lists.specs.Overwrite.{overwrite}
use Rattle.refusal.specs.Steps.{Step, refused, after, settle, verdict, Passed}
use Rattle.refusal.proofs.Steps.{first_refused, after_refused, append-refused, append_passed}
use Rattle.refusal.specs.Refusal.{refusal_number}
use Rattle.refusal.specs.declared.Refusal.{Refusal}
use Rattle.pairs.specs.Pair.{pair_count, pair_rows, pair_columns}
use Rattle.pattern_lists.specs.ListedMarks.{pair_output_steps}
use Rattle.pattern_lists.specs.PatternLists.{scratch_step, PatternLists}
use Rattle.std.specs.Prelude.{Err, Result}

module _ (checks : List Step) (n : ℕ) (S : ℕ → ℕ → Bool) (scratch rows columns : List ℕ) where
  -- the input is refused: nothing is touched
  pub lists_refused : (why : Refusal) → verdict checks ≡ refused (refusal_number why) → PatternLists checks n S (Err why) scratch rows columns scratch rows columns
  lists_refused why e =
      let whole = append-refused checks (scratch_step n (length scratch) ∷ pair_output_steps (pair_count n S) (length rows) (length columns)) (refusal_number why) tt e in
      record {
        replies = sym (first_refused _ (refusal_number why) (pair_count n S) whole);
        scratch_is = sym (after_refused _ (refusal_number why) _ scratch (append-refused checks _ (refusal_number why) tt e));
        rows_are = sym (after_refused _ (refusal_number why) (overwrite (pair_rows n S) rows) rows whole);
        columns_are = sym (after_refused _ (refusal_number why) (overwrite (pair_columns n S) columns) columns whole);
      }

  -- the input passes
  pub lists_passed : {reply : Result ℕ Refusal} {scratch' rows' columns' : List ℕ} → Passed checks → PatternLists [] n S reply scratch rows columns scratch' rows' columns' → PatternLists checks n S reply scratch rows columns scratch' rows' columns'
  unfolding after
  lists_passed p L = record {
    replies = L.replies ∙ sym (append_passed checks _ (pair_count n S) p);
    scratch_is = L.scratch_is ∙ ap (settle scratch) (sym (append_passed checks _ _ p));
    rows_are = L.rows_are ∙ ap (settle rows) (sym (append_passed checks _ (overwrite (pair_rows n S) rows) p));
    columns_are = L.columns_are ∙ ap (settle columns) (sym (append_passed checks _ (overwrite (pair_columns n S) columns) p));
  }
