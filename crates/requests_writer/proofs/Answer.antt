-- What a call that answers leaves in front of its output: the file of the requests' set. Equal sets of one dimension give equal bytes, and the reader gives back
-- the set. Assumes nothing.
use Rattle.std.specs.Prelude.{ℕ, ◌≤◌, ◌<◌, ◌≡◌, List, length, take, Result}
use Rattle.std.proofs.Common.{sym, ap, ap₂, subst, ◌∙◌}
use Rattle.lists.specs.Overwrite.{overwrite_front}
use Rattle.refusal.specs.Steps.{answered, Passed}
use Rattle.refusal.proofs.Steps.{passed_front, after_passed}
use Rattle.refusal.proofs.Told.{told_passed, told_answer}
use Rattle.pairs.specs.ColumnOrder.{set_size}
use Rattle.closed_set.specs.Requests.{requested}
use Rattle.matrix_market.specs.File.{file_steps, file_answer, file_rows, file_columns}
use Rattle.matrix_market.proofs.FileOf.{file_cong}
use Rattle.requests_writer.specs.Writer.{write_checks, mark_steps, write_steps, requests_file, RequestsWritten}
use Rattle.requests_writer.proofs.RoundTrip.{written_passes, written_answer, written_requested}
use Rattle.refusal.specs.declared.Refusal.{Refusal}
use Rattle.refusal.specs.Refusal.{reply_of}

-- equal sets give equal bytes
pub same_file : (n : ℕ) (rows columns rows' columns' : List ℕ) → ((r c : ℕ) → c ≤ r → r < n → requested rows columns r c ≡ requested rows' columns' r c)
    → requests_file n rows columns ≡ requests_file n rows' columns'
same_file n rows columns rows' columns' same = file_cong n (requested rows columns) (requested rows' columns') same

module _ (n : ℕ) (rows columns output₀ scratch₀ : List ℕ) {reply : Result ℕ Refusal} {output scratch : List ℕ}
    (W : RequestsWritten n rows columns output₀ scratch₀ reply output scratch) {m : ℕ} (answer : reply_of reply ≡ answered m) where
  passed : Passed (write_steps n rows columns (length scratch₀) (length output₀))
  passed = told_passed (write_steps n rows columns (length scratch₀) (length output₀)) (length (requests_file n rows columns)) (sym answer ∙ W.replies)

  pub answer_length : m ≡ length (requests_file n rows columns)
  answer_length = told_answer (write_steps n rows columns (length scratch₀) (length output₀)) (length (requests_file n rows columns)) (sym answer ∙ W.replies)

  -- the first m bytes are the file
  pub answer_bytes : take m output ≡ requests_file n rows columns
  answer_bytes =
      ap₂ (λ (k : ℕ) (l : List ℕ). take k l) answer_length (W.output_is ∙ after_passed (write_steps n rows columns (length scratch₀) (length output₀)) _ _ passed)
      ∙ overwrite_front (requests_file n rows columns) output₀

  checked : Passed (write_checks n rows columns)
  checked = passed_front (write_checks n rows columns) _ (passed_front (mark_steps n rows columns (length scratch₀)) _ passed)

  -- the reader takes them, into lists as long as the set has pairs, and gives the dimension and the same set
  pub answer_read : (r c : ℕ) → set_size n (requested rows columns) ≤ r → set_size n (requested rows columns) ≤ c
      → Passed (file_steps (take m output) r c) × (file_answer (take m output) ≡ (n, set_size n (requested rows columns)))
  answer_read r c a b = (
    subst (λ (t : List ℕ). Passed (file_steps t r c)) (sym answer_bytes) (written_passes n rows columns checked r c a b),
    ap file_answer answer_bytes ∙ written_answer n rows columns checked,
  )

  pub answer_set : (r c : ℕ) → requested (file_rows (take m output)) (file_columns (take m output)) r c ≡ requested rows columns r c
  answer_set r c = ap (λ (t : List ℕ). requested (file_rows t) (file_columns t) r c) answer_bytes ∙ written_requested n rows columns checked r c

-- two calls that answer, with equal sets of one dimension: as many bytes, and equal ones
pub same_bytes : (n : ℕ) (rows columns output₀ scratch₀ rows' columns' output₀' scratch₀' : List ℕ)
    {reply reply' : Result ℕ Refusal} {output scratch output' scratch' : List ℕ}
    → RequestsWritten n rows columns output₀ scratch₀ reply output scratch → RequestsWritten n rows' columns' output₀' scratch₀' reply' output' scratch'
    → {m m' : ℕ} → reply_of reply ≡ answered m → reply_of reply' ≡ answered m'
    → ((r c : ℕ) → c ≤ r → r < n → requested rows columns r c ≡ requested rows' columns' r c) → (m ≡ m') × (take m output ≡ take m' output')
same_bytes n rows columns output₀ scratch₀ rows' columns' output₀' scratch₀' W W' a a' same =
    let e = same_file n rows columns rows' columns' same in (
      answer_length n rows columns output₀ scratch₀ W a ∙ ap length e ∙ sym (answer_length n rows' columns' output₀' scratch₀' W' a'),
      answer_bytes n rows columns output₀ scratch₀ W a ∙ e ∙ sym (answer_bytes n rows' columns' output₀' scratch₀' W' a'),
    )
