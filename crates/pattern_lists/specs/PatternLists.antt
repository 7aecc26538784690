-- What the pattern lists refuse, and what they leave.
-- Assumes nothing.
use Rattle.std.specs.Prelude.{ℕ, ◌≡◌, Bool, List, [], ◌∷◌, ◌++◌, ltb, length, Result}
use Rattle.lists.specs.Overwrite.{overwrite, cleared}
use Rattle.refusal.specs.Steps.{Step, first, after}
use Rattle.pairs.specs.Scratch.{mark_words}
use Rattle.pairs.specs.Pair.{pair_count, pair_rows, pair_columns}
use Rattle.pattern_lists.specs.ListedMarks.{pair_output_steps}
use Rattle.refusal.specs.declared.Refusal.{Refusal}
use Rattle.refusal.specs.Refusal.{reply_of}

-- how many words of scratch a list uses: those of its marks, ceil(T/32)
abbrev pub pattern_words : ℕ → ℕ
pattern_words n = mark_words n

-- 7: scratch below them
abbrev pub scratch_step : ℕ → ℕ → Step
scratch_step n scratch = (7, ltb scratch (pattern_words n))

-- past these the scratch's first words, so many, end 0
abbrev pub scratch_steps : List Step → ℕ → ℕ → List Step
scratch_steps checks n scratch = checks ++ scratch_step n scratch ∷ []

-- past these the pairs of the set are listed
abbrev pub list_steps : List Step → ℕ → (ℕ → ℕ → Bool) → ℕ → ℕ → ℕ → List Step
list_steps checks n S scratch rows columns = checks ++ scratch_step n scratch ∷ pair_output_steps (pair_count n S) rows columns

-- what a pattern list of n columns replies and leaves, past the checks of its input: the pairs of a set
pub record PatternLists (checks : List Step) (n : ℕ) (S : ℕ → ℕ → Bool) (reply : Result ℕ Refusal) (scratch rows columns scratch' rows' columns' : List ℕ) : Type 0 where
  pub replies : reply_of reply ≡ first (list_steps checks n S (length scratch) (length rows) (length columns)) (pair_count n S)
  pub scratch_is : scratch' ≡ after (scratch_steps checks n (length scratch)) (cleared (pattern_words n) scratch) scratch
  pub rows_are : rows' ≡ after (list_steps checks n S (length scratch) (length rows) (length columns)) (overwrite (pair_rows n S) rows) rows
  pub columns_are : columns' ≡ after (list_steps checks n S (length scratch) (length rows) (length columns)) (overwrite (pair_columns n S) columns) columns
