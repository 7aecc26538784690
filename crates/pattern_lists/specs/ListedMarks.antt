-- What listing the marked pairs refuses, and what it leaves.
-- Assumes nothing.
use Rattle.std.specs.Prelude.{ℕ, ◌≡◌, Bool, List, [], ◌∷◌, ltb, length, Result}
use Rattle.lists.specs.Overwrite.{overwrite, cleared}
use Rattle.refusal.specs.Steps.{Step, first, after}
use Rattle.refusal.specs.Refusal.{reply_of}
use Rattle.pairs.specs.Pair.{pair_count, pair_rows, pair_columns}
use Rattle.refusal.specs.declared.Refusal.{Refusal}

-- 7: an output below the number of pairs
abbrev pub pair_output_steps : ℕ → ℕ → ℕ → List Step
pair_output_steps count rows columns = (7, ltb rows count) ∷ (7, ltb columns count) ∷ []

-- what listing the pairs of a set replies and leaves: the marks end 0
pub record ListedMarks (n : ℕ) (S : ℕ → ℕ → Bool) (reply : Result ℕ Refusal) (marks rows columns marks' rows' columns' : List ℕ) : Type 0 where
  pub replies : reply_of reply ≡ first (pair_output_steps (pair_count n S) (length rows) (length columns)) (pair_count n S)
  pub clears : marks' ≡ cleared (length marks) marks
  pub rows_are : rows' ≡ after (pair_output_steps (pair_count n S) (length rows) (length columns)) (overwrite (pair_rows n S) rows) rows
  pub columns_are : columns' ≡ after (pair_output_steps (pair_count n S) (length rows) (length columns)) (overwrite (pair_columns n S) columns) columns
