-- Laws of specs/Canonical.antt.
use Rattle.std.specs.Prelude.{ℕ, ◌≤◌, ◌<◌, ◌≡◌, Bool, false, ◌&&◌, List, [], ◌∷◌, eqb, ltb, take, Ok, Result}
use Rattle.std.proofs.Common.{arith, ap₂, subst, subst₂, ◌∙◌}
use Rattle.std.proofs.Math.Path.{sym, ap}
use Rattle.std.proofs.Math.Bool.{not}
use Rattle.std.proofs.Math.ListN.{length, get_or}
use borrow.Author.Tests.{le-ltb, lt-leb, eq-eqb, eqb-true, ltb-true}
use Rattle.lists.specs.Test.{any_all, and_left, and_right, not_so}
use Rattle.lists.specs.Overwrite.{overwrite, overwrite_front}
use Rattle.refusal.specs.Bounds.{max_entries}
use Rattle.refusal.specs.Steps.{Step, answered, Passed}
use Rattle.refusal.proofs.Steps.{clear_passed, passed_append, first_passed, after_passed}
use Rattle.refusal.proofs.Told.{told_passed, told_answer}
use Rattle.pairs.specs.Scratch.{mark_words}
use Rattle.pairs.specs.ColumnOrder.{set_size}
use Rattle.closed_set.specs.ClosedSet.{Ranged}
use Rattle.closed_set.specs.Requests.{requested}
use Rattle.matrix_market.specs.File.{dimension_of, entries, stand_for, file_requests, file_rows, file_columns, file_steps, file_answer}
use Rattle.matrix_market.proofs.File.{requests_count}
use Rattle.matrix_market.specs.AcceptedFile.{AcceptedFile}
use Rattle.matrix_market.proofs.AcceptedFile.{file_accepted}
use Rattle.matrix_market.specs.FileOf.{file_of}
use Rattle.matrix_market.proofs.FileOf.{file_cong}
use Rattle.matrix_market.proofs.FileRead.{dimension_is, file_requested}
use Rattle.requests_reader.specs.Reader.{RequestsRead}
use Rattle.requests_writer.specs.Writer.{some_upper, write_checks, mark_steps, output_step, write_steps, requests_file, RequestsWritten}
use Rattle.requests_writer.specs.Canonical.{canonical}
use Rattle.refusal.specs.declared.Refusal.{Refusal}
use Rattle.refusal.specs.Refusal.{reply_of}

-- ---- no entries stand for no requests only where there are no columns
some_requests : (n : ℕ) (es : List (List (List ℕ))) → 0 < n → length (stand_for n es) ≡ 0 → ⊥
some_requests n [] h e = omega (arith, requests_count n [], e)
some_requests n (x ∷ es) h e = omega (arith, requests_count n (x ∷ es), e)

module _ (text : List ℕ) (rows columns : ℕ) (p : Passed (file_steps text rows columns)) where
  accepted : AcceptedFile text rows columns
  accepted = file_accepted text rows columns p

  -- what the reader gives of an accepted file, the writer does not refuse
  pub read_checks : Passed (write_checks (dimension_of text) (file_rows text) (file_columns text))
  unfolding write_checks some_upper
  read_checks =
      let n = dimension_of text in
      let few : length (file_rows text) ≤ max_entries = omega (arith, accepted.rows_long, accepted.few) in
      clear_passed (write_checks n (file_rows text) (file_columns text)) (
        le-ltb _ _ accepted.small,
        (
          le-ltb _ _ few,
          (
            ap not (eq-eqb _ _ (accepted.rows_long ∙ sym accepted.columns_long)),
            (
              any_all _ _ (λ k l. lt-leb _ _ (row_inside k l)),
              (any_all _ _ (λ k l. lt-leb _ _ (column_inside k l)), (any_all _ _ (λ k l. le-ltb _ _ (below k l)), (some_there, tt))),
            ),
          ),
        ),
      )
    where
      row_inside : (k : ℕ) → k < length (file_rows text) → get_or (file_rows text) k 0 < dimension_of text
      row_inside k l = accepted.inside k (omega (arith, accepted.rows_long))

      below : (k : ℕ) → k < length (file_rows text) → get_or (file_columns text) k 0 ≤ get_or (file_rows text) k 0
      below k l = accepted.below k (omega (arith, accepted.rows_long))

      column_inside : (k : ℕ) → k < length (file_columns text) → get_or (file_columns text) k 0 < dimension_of text
      column_inside k l =
          let m : k < length (file_rows text) = omega (arith, accepted.rows_long, accepted.columns_long) in
          omega (arith, row_inside k m, below k m)

      some_there : (eqb (length (file_rows text)) 0 && ltb 0 (dimension_of text)) ≡ false
      some_there =
          not_so _
          (λ e.
          some_requests (dimension_of text) (entries text) (ltb-true _ _ (and_right (eqb (length (file_rows text)) 0) _ e))
          (sym accepted.rows_long ∙ eqb-true _ _ (and_left (eqb (length (file_rows text)) 0) _ e)))

-- ---- of two calls: one reads a file and answers n and count, the other writes the first count requests of the lists
module _ (text rows₀ columns₀ rows columns : List ℕ) (n count : ℕ) (R : RequestsRead text rows₀ columns₀ (Ok (n, count)) rows columns) where
  abbrev reading : List Step
  reading = file_steps text (length rows₀) (length columns₀)

  passed : Passed reading
  passed = told_passed reading (file_answer text) R.replies

  n_is : n ≡ dimension_of text
  n_is = ap (λ (a : ℕ × ℕ). a.0) (told_answer reading (file_answer text) R.replies)

  count_is : count ≡ length (file_requests text)
  count_is = ap (λ (a : ℕ × ℕ). a.1) (told_answer reading (file_answer text) R.replies)

  read : AcceptedFile text (length rows₀) (length columns₀)
  read = file_accepted text (length rows₀) (length columns₀) passed

  rows_front : take count rows ≡ file_rows text
  rows_front =
      ap₂ take (count_is ∙ sym read.rows_long) (R.rows_are ∙ after_passed reading _ rows₀ passed) ∙ overwrite_front (file_rows text) rows₀

  columns_front : take count columns ≡ file_columns text
  columns_front =
      ap₂ take (count_is ∙ sym read.columns_long) (R.columns_are ∙ after_passed reading _ columns₀ passed) ∙ overwrite_front (file_columns text) columns₀

  -- their file is the canonical one
  pub canonical-file : requests_file n (take count rows) (take count columns) ≡ canonical text
  canonical-file =
      ap (λ (k : ℕ). requests_file k (take count rows) (take count columns)) n_is
      ∙ ap₂ (λ (a b : List ℕ). requests_file (dimension_of text) a b) rows_front columns_front

  checked : Passed (write_checks n (take count rows) (take count columns))
  checked =
      subst (λ (k : ℕ). Passed (write_checks k (take count rows) (take count columns))) (sym n_is)
      (subst₂ (λ (a b : List ℕ). Passed (write_checks (dimension_of text) a b)) (sym rows_front) (sym columns_front)
      (read_checks text (length rows₀) (length columns₀) passed))

  -- with room it is written
  module _ (output₀ scratch₀ : List ℕ) {reply : Result ℕ Refusal} {output scratch : List ℕ}
      (W : RequestsWritten n (take count rows) (take count columns) output₀ scratch₀ reply output scratch)
      (marks-room : mark_words n ≤ length scratch₀) (output-room : length (canonical text) ≤ length output₀) where
    abbrev writing : List Step
    writing = write_steps n (take count rows) (take count columns) (length scratch₀) (length output₀)

    written : Passed writing
    written =
        let file = requests_file n (take count rows) (take count columns) in
        let long : length file ≤ length output₀ = omega (arith, output-room, ap length canonical-file) in
        passed_append (mark_steps n (take count rows) (take count columns) (length scratch₀)) (output_step (length file) (length output₀) ∷ [])
        (passed_append (write_checks n (take count rows) (take count columns)) ((7, _) ∷ []) checked (clear_passed ((7, _) ∷ []) (le-ltb _ _ marks-room, tt)))
        (clear_passed (output_step (length file) (length output₀) ∷ []) (le-ltb _ _ long, tt))

    pub read_then_written : (reply_of reply ≡ answered (length (canonical text))) × (take (length (canonical text)) output ≡ canonical text)
    read_then_written = (
      W.replies ∙ first_passed writing _ written ∙ ap (λ (f : List ℕ). answered (length f)) canonical-file,
      ap (take (length (canonical text)))
          (W.output_is ∙ after_passed writing _ output₀ written ∙ ap (λ (f : List ℕ). overwrite f output₀) canonical-file)
          ∙ overwrite_front (canonical text) output₀,
    )

-- ---- what is canonical
-- files of one dimension whose requests are one set have the same canonical bytes
pub canonical_same : (text other : List ℕ) → dimension_of text ≡ dimension_of other
    → ((r c : ℕ) → c ≤ r → r < dimension_of other → requested (file_rows text) (file_columns text) r c ≡ requested (file_rows other) (file_columns other) r c)
    → canonical text ≡ canonical other
canonical_same text other e same =
    ap (λ (n : ℕ). file_of n (requested (file_rows text) (file_columns text))) e
    ∙ file_cong (dimension_of other) (requested (file_rows text) (file_columns text)) (requested (file_rows other) (file_columns other)) same

-- the canonical bytes of a set's file are that file
pub canonical_itself : (n : ℕ) (S : ℕ → ℕ → Bool) → Ranged n S → (0 < n → 0 < set_size n S) → canonical (file_of n S) ≡ file_of n S
canonical_itself n S R filled =
    ap (λ (k : ℕ). file_of k (requested (file_rows (file_of n S)) (file_columns (file_of n S)))) (dimension_is n S)
    ∙ file_cong n (requested (file_rows (file_of n S)) (file_columns (file_of n S))) S (λ r c _ _. file_requested n S filled R r c)
