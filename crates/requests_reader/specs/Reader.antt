-- Reading a request file: what the call promises.
-- Assumes nothing.
use Rattle.std.specs.Prelude.{ℕ, ◌≡◌, List, length, Result}
use Rattle.lists.specs.Overwrite.{overwrite}
use Rattle.refusal.specs.Refusal.{reply_of}
use Rattle.refusal.specs.Steps.{first, after}
use Rattle.matrix_market.specs.File.{file_rows, file_columns, file_steps, file_answer}
use Rattle.refusal.specs.declared.Refusal.{Refusal}

-- the call: its reply, and what the two lists hold after it
pub record RequestsRead (text rows₀ columns₀ : List ℕ) (reply : Result (ℕ × ℕ) Refusal) (rows columns : List ℕ) : Type 0 where
  pub replies : reply_of reply ≡ first (file_steps text (length rows₀) (length columns₀)) (file_answer text)
  pub rows_are : rows ≡ after (file_steps text (length rows₀) (length columns₀)) (overwrite (file_rows text) rows₀) rows₀
  pub columns_are : columns ≡ after (file_steps text (length rows₀) (length columns₀)) (overwrite (file_columns text) columns₀) columns₀
