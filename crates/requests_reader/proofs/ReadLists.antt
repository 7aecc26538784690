-- Laws of specs/ReadLists.antt.
use Rattle.std.specs.Prelude.{ℕ, ◌≤◌, ◌<◌, ◌≡◌, refl, List, [], ◌∷◌, length, get_or, Ok, Err}
use Rattle.std.proofs.Common.{arith, ap, ◌∙◌}
use Rattle.lists.specs.Overwrite.{overwrite, overwrite-length, overwrite_at}
use Rattle.refusal.specs.Steps.{Step, Passed, after}
use Rattle.refusal.proofs.Steps.{after_passed}
use Rattle.refusal.proofs.Told.{told_passed, told_answer}
use Rattle.refusal.specs.declared.Refusal.TheVariants.{TooShort}
use Rattle.matrix_market.specs.File.{dimension_of, file_requests, file_rows, file_columns, file_steps, file_answer}
use Rattle.matrix_market.specs.Examples.{told, sample}
use Rattle.matrix_market.specs.AcceptedFile.{AcceptedFile}
use Rattle.matrix_market.proofs.AcceptedFile.{file_accepted}
use Rattle.requests_reader.specs.Reader.{RequestsRead}
use Rattle.requests_reader.specs.ReadLists.{ReadLists}

module _ (text rows₀ columns₀ rows columns : List ℕ) (n count : ℕ) (r : RequestsRead text rows₀ columns₀ (Ok (n, count)) rows columns) where
  abbrev steps : List Step
  steps = file_steps text (length rows₀) (length columns₀)

  passed : Passed steps
  passed = told_passed steps (file_answer text) r.replies

  accepted : AcceptedFile text (length rows₀) (length columns₀)
  accepted = file_accepted text (length rows₀) (length columns₀) passed

  n_is : n ≡ dimension_of text
  n_is = ap (λ (a : ℕ × ℕ). a.0) (told_answer steps (file_answer text) r.replies)

  count_is : count ≡ length (file_requests text)
  count_is = ap (λ (a : ℕ × ℕ). a.1) (told_answer steps (file_answer text) r.replies)

  rows_written : rows ≡ overwrite (file_rows text) rows₀
  rows_written = r.rows_are ∙ after_passed steps _ rows₀ passed

  columns_written : columns ≡ overwrite (file_columns text) columns₀
  columns_written = r.columns_are ∙ after_passed steps _ columns₀ passed

  rows_length : length rows ≡ length rows₀
  rows_length = ap length rows_written ∙ overwrite-length (file_rows text) rows₀ (omega (arith, accepted.rows_long, accepted.rows_room))

  columns_length : length columns ≡ length columns₀
  columns_length = ap length columns_written ∙ overwrite-length (file_columns text) columns₀ (omega (arith, accepted.columns_long, accepted.columns_room))

  -- place k of the lists is request k
  module _ (k : ℕ) (l : k < count) where
    row_at : get_or rows k 0 ≡ get_or (file_rows text) k 0
    row_at = ap (λ (s : List ℕ). get_or s k 0) rows_written ∙ overwrite_at (file_rows text) rows₀ k 0 (omega (arith, l, count_is, accepted.rows_long))

    column_at_lem : get_or columns k 0 ≡ get_or (file_columns text) k 0
    column_at_lem =
        ap (λ (s : List ℕ). get_or s k 0) columns_written ∙ overwrite_at (file_columns text) columns₀ k 0 (omega (arith, l, count_is, accepted.columns_long))

    row_inside : get_or rows k 0 < n
    row_inside = omega (arith, row_at, n_is, accepted.inside k (omega (arith, l, count_is)))

    column_below : get_or columns k 0 ≤ get_or rows k 0
    column_below = omega (arith, row_at, column_at_lem, accepted.below k (omega (arith, l, count_is)))

  pub read_accepted : ReadLists n count rows columns
  read_accepted =
      record {
        small = omega (arith, n_is, accepted.small);
        few = omega (arith, count_is, accepted.few);
        rows_long = omega (arith, count_is, rows_length, accepted.rows_room);
        columns_long = omega (arith, count_is, columns_length, accepted.columns_room);
        inside = row_inside;
        below = column_below;
      }

-- ---- the sample: 3 columns and 4 requests, read into lists of 5 and 4 places
abbrev fives : List ℕ
fives = 5 ∷ 5 ∷ 5 ∷ 5 ∷ 5 ∷ []

abbrev fours : List ℕ
fours = 4 ∷ 4 ∷ 4 ∷ 4 ∷ []

sample_read : RequestsRead sample fives fours (Ok (3, 4)) (0 ∷ 2 ∷ 1 ∷ 2 ∷ 5 ∷ []) (0 ∷ 1 ∷ 1 ∷ 1 ∷ [])
unfolding told sample after overwrite
sample_read = record { replies = refl; rows_are = refl; columns_are = refl }

sample-request : ReadLists 3 4 (0 ∷ 2 ∷ 1 ∷ 2 ∷ 5 ∷ []) (0 ∷ 1 ∷ 1 ∷ 1 ∷ [])
sample-request = read_accepted sample fives fours (0 ∷ 2 ∷ 1 ∷ 2 ∷ 5 ∷ []) (0 ∷ 1 ∷ 1 ∷ 1 ∷ []) 3 4 sample_read

-- a list of 3 places is refused, and both are left
sample_short : RequestsRead sample fives (4 ∷ 4 ∷ 4 ∷ []) (Err TooShort) fives (4 ∷ 4 ∷ 4 ∷ [])
unfolding told sample after
sample_short = record { replies = refl; rows_are = refl; columns_are = refl }
