-- What listing the marked pairs leaves, with and without room.
-- Assumes nothing.
use Prim.Native.Nat.{ℕ, ◌≤◌, ◌<◌}
use mathlib.Core.Path.{◌≡◌, sym, ap, subst, ◌∙◌}
use mathlib.Core.Bool.{Bool}
use mathlib.Core.List.{List}
use lib.ListN.{length}
use borrow.Author.Tests.{lt-ltb, le-ltb}
use Rattle.lists.specs.Overwrite.{overwrite, cleared}
use Rattle.refusal.specs.Steps.{Step, refused, answered, verdict, Passed}
use Rattle.refusal.proofs.Steps.{first_hit, first_skip, first_end, first_refused, first_passed, after_refused, after_passed}
use Rattle.refusal.specs.declared.Refusal.TheVariants.{TooShort}
use Rattle.pairs.specs.Pair.{pair_count, pair_rows, pair_columns}
use Rattle.pattern_lists.specs.ListedMarks.{pair_output_steps, ListedMarks}
use Rattle.std.specs.Prelude.{Ok, Err}

module _ (n : ℕ) (S : ℕ → ℕ → Bool) (marks rows columns : List ℕ) where
  abbrev steps : List Step
  steps = pair_output_steps (pair_count n S) (length rows) (length columns)

  listed_short : {marks' : List ℕ} → marks' ≡ cleared (length marks) marks → verdict steps ≡ refused 7 → ListedMarks n S (Err TooShort) marks rows columns marks' rows columns
  listed_short c e = record {
    replies = sym (first_refused steps 7 (pair_count n S) e);
    clears = c;
    rows_are = sym (after_refused steps 7 (overwrite (pair_rows n S) rows) rows e);
    columns_are = sym (after_refused steps 7 (overwrite (pair_columns n S) columns) columns e);
  }

  module _ (count : ℕ) (e : count ≡ pair_count n S) where
    pub rows_short : {marks' : List ℕ} → marks' ≡ cleared (length marks) marks → length rows < count → ListedMarks n S (Err TooShort) marks rows columns marks' rows columns
    rows_short c h = listed_short c (first_hit 7 _ tt (lt-ltb _ _ (subst (λ (k : ℕ). length rows < k) e h)))

    pub columns_short : {marks' : List ℕ} → marks' ≡ cleared (length marks) marks → count ≤ length rows → length columns < count → ListedMarks n S (Err TooShort) marks rows columns marks' rows columns
    columns_short c h k =
        listed_short c
        (first_skip 7 _ tt (le-ltb _ _ (subst (λ (j : ℕ). j ≤ length rows) e h)) (first_hit 7 _ tt (lt-ltb _ _ (subst (λ (j : ℕ). length columns < j) e k))))

    pub listed_all : {marks' rows' columns' : List ℕ} {m : ℕ} → marks' ≡ cleared (length marks) marks → count ≤ length rows → count ≤ length columns
        → m ≡ pair_count n S → rows' ≡ overwrite (pair_rows n S) rows → columns' ≡ overwrite (pair_columns n S) columns → ListedMarks n S (Ok m) marks rows columns marks' rows' columns'
    listed_all {marks'} {rows'} {columns'} {m} c h k f p q = record {
      replies = ap (λ (j : ℕ). answered j) f ∙ sym (first_passed steps (pair_count n S) passed);
      clears = c;
      rows_are = p ∙ sym (after_passed steps (overwrite (pair_rows n S) rows) rows passed);
      columns_are = q ∙ sym (after_passed steps (overwrite (pair_columns n S) columns) columns passed);
    }
      where
        passed : Passed steps
        passed =
            first_skip 7 _ tt (le-ltb _ _ (subst (λ (j : ℕ). j ≤ length rows) e h))
            (first_skip 7 _ tt (le-ltb _ _ (subst (λ (j : ℕ). j ≤ length columns) e k)) (first_end tt))
