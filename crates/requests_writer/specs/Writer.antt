-- Writing a request list: what is refused of it, and what the call leaves.
-- Assumes nothing.
use Rattle.std.specs.Prelude.{ℕ, ◌≡◌, Bool, not, ◌&&◌, List, [], ◌∷◌, ◌++◌, ltb, eqb, length, get_or, Result}
use Rattle.lists.specs.Test.{any}
use Rattle.lists.specs.Overwrite.{overwrite, cleared}
use Rattle.refusal.specs.Bounds.{max_dimension, max_entries}
use Rattle.refusal.specs.Refusal.{reply_of}
use Rattle.refusal.specs.Steps.{Step, first, after}
use Rattle.columns.specs.Columns.{outside}
use Rattle.pairs.specs.Scratch.{mark_words}
use Rattle.closed_set.specs.Requests.{requested}
use Rattle.matrix_market.specs.FileOf.{file_of}
use Rattle.refusal.specs.declared.Refusal.{Refusal}

-- a row less than its column
abbrev pub upper_at : List ℕ → List ℕ → ℕ → Bool
upper_at rows columns k = ltb (get_or rows k 0) (get_or columns k 0)

unfoldable pub some_upper : List ℕ → List ℕ → Bool
some_upper rows columns = any (upper_at rows columns) (length rows)

-- 1: a dimension or requests above the bounds; 4: lists of unequal length; 5: an index outside or above the diagonal; 24: an empty list of some columns
unfoldable pub write_checks : ℕ → List ℕ → List ℕ → List Step
write_checks n rows columns =
    (1, ltb max_dimension n)
    ∷ (1, ltb max_entries (length rows))
    ∷ (4, not (eqb (length rows) (length columns)))
    ∷ (5, outside n rows)
    ∷ (5, outside n columns)
    ∷ (5, some_upper rows columns)
    ∷ (24, eqb (length rows) 0 && ltb 0 n)
    ∷ []

-- the file's bytes: of the set that the requests are
abbrev pub requests_file : ℕ → List ℕ → List ℕ → List ℕ
requests_file n rows columns = file_of n (requested rows columns)

-- 7: an output below the file
abbrev pub output_step : ℕ → ℕ → Step
output_step needed output = (7, ltb output needed)

-- 7: a scratch below ceil(T/32) words; past these steps so many words end 0
abbrev pub mark_steps : ℕ → List ℕ → List ℕ → ℕ → List Step
mark_steps n rows columns scratch = write_checks n rows columns ++ (7, ltb scratch (mark_words n)) ∷ []

-- 1, 4, 5, 24, 7 and 7 in their order; past them the file is written
abbrev pub write_steps : ℕ → List ℕ → List ℕ → ℕ → ℕ → List Step
write_steps n rows columns scratch output = mark_steps n rows columns scratch ++ output_step (length (requests_file n rows columns)) output ∷ []

-- the call: its reply, and what output and scratch hold after it
pub record RequestsWritten (n : ℕ) (rows columns output₀ scratch₀ : List ℕ) (reply : Result ℕ Refusal) (output scratch : List ℕ) : Type 0 where
  pub replies : reply_of reply ≡ first (write_steps n rows columns (length scratch₀) (length output₀)) (length (requests_file n rows columns))
  pub output_is : output ≡ after (write_steps n rows columns (length scratch₀) (length output₀)) (overwrite (requests_file n rows columns) output₀) output₀
  pub scratch_is : scratch ≡ after (mark_steps n rows columns (length scratch₀)) (cleared (mark_words n) scratch₀) scratch₀

-- ---- past the checks
-- the file of a set: the marks end 0
pub record SetWritten (n : ℕ) (S : ℕ → ℕ → Bool) (reply : Result ℕ Refusal) (marks output marks' output' : List ℕ) : Type 0 where
  pub replies : reply_of reply ≡ first (output_step (length (file_of n S)) (length output) ∷ []) (length (file_of n S))
  pub clears : marks' ≡ cleared (length marks) marks
  pub output_is : output' ≡ after (output_step (length (file_of n S)) (length output) ∷ []) (overwrite (file_of n S) output) output
