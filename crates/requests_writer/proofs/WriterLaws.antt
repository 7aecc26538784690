-- A set's file written, with and without room; the marks in the scratch; the requests refused, and passed.
-- Assumes nothing.
use Prim.Native.Nat.{ℕ, ◌≤◌, ◌<◌}
use mathlib.Core.Path.{◌≡◌, sym, ap, subst, ◌∙◌}
use mathlib.Core.Bool.{Bool}
use mathlib.Core.List.{List, [], ◌∷◌, ◌++◌}
use lib.ListN.{length, take, drop}
use lib.Seq.{length-take-le}
use borrow.Author.Tests.{lt-ltb, le-ltb}
use Rattle.lists.specs.Tabulate.{tabulate, tabulate-length}
use Rattle.lists.specs.Overwrite.{overwrite, splice, splice_first, filled, cleared, filled_all}
use Rattle.refusal.specs.Steps.{Step, refused, answered, first, after, settle, verdict, Passed}
use Rattle.refusal.proofs.Steps.{first_hit, first_skip, first_end, first_refused, first_passed, after_refused, after_passed, append-refused, append_passed}
use Rattle.refusal.specs.Refusal.{refusal_number}
use Rattle.refusal.specs.declared.Refusal.{Refusal}
use Rattle.refusal.specs.declared.Refusal.TheVariants.{TooShort}
use Rattle.pairs.specs.Scratch.{mark_words}
use Rattle.pairs.specs.ColumnOrder.{column_marking}
use Rattle.closed_set.specs.Requests.{requested}
use Rattle.matrix_market.specs.FileOf.{file_of}
use Rattle.matrix_market.proofs.FileOf.{file_cong}
use Rattle.requests_writer.specs.Marked.{MarkInput, MarkedRequests}
use Rattle.requests_writer.specs.Writer.{write_checks, requests_file, output_step, mark_steps, SetWritten, RequestsWritten}
use Rattle.requests_writer.proofs.Writer.{write_checks_requests, write_checks_below, write_checks_small}
use Rattle.std.specs.Prelude.{Ok, Err, Result}

module _ (n : ℕ) (S : ℕ → ℕ → Bool) (marks output : List ℕ) where
  abbrev steps : List Step
  steps = output_step (length (file_of n S)) (length output) ∷ []

  module _ (m : ℕ) (e : m ≡ length (file_of n S)) where
    pub set_short : {marks' : List ℕ} → marks' ≡ cleared (length marks) marks → length output < m → SetWritten n S (Err TooShort) marks output marks' output
    set_short c h =
        let t : verdict steps ≡ refused 7 = first_hit 7 [] tt (lt-ltb _ _ (subst (λ (k : ℕ). length output < k) e h)) in
        record {
          replies = sym (first_refused steps 7 (length (file_of n S)) t);
          clears = c;
          output_is = sym (after_refused steps 7 (overwrite (file_of n S) output) output t);
        }

    pub set_all : {marks' output' : List ℕ} → marks' ≡ cleared (length marks) marks → m ≤ length output → output' ≡ splice 0 (file_of n S) output
        → SetWritten n S (Ok m) marks output marks' output'
    set_all c h q =
        let t : Passed steps = first_skip 7 [] tt (le-ltb _ _ (subst (λ (k : ℕ). k ≤ length output) e h)) (first_end tt) in
        record {
          replies = ap (λ (j : ℕ). answered j) e ∙ sym (first_passed steps (length (file_of n S)) t);
          clears = c;
          output_is = q ∙ splice_first (file_of n S) output ∙ sym (after_passed steps (overwrite (file_of n S) output) output t);
        }

-- the marks of requests: their set's file
pub set_requests : (n : ℕ) (rows columns marks output : List ℕ) {reply : Result ℕ Refusal} {marked marks' output' : List ℕ} → MarkedRequests n rows columns marks marked
    → SetWritten n (column_marking n marked) reply marked output marks' output' → SetWritten n (requested rows columns) reply marks output marks' output'
set_requests n rows columns marks output {reply} {marked} M W =
    let q = file_cong n (column_marking n marked) (requested rows columns) M.marks_are in
    record {
      replies = W.replies ∙ ap (λ (f : List ℕ). first (output_step (length f) (length output) ∷ []) (length f)) q;
      clears = W.clears ∙ filled_all (λ _. 0) marked ∙ ap (tabulate (λ _. 0)) M.long ∙ sym (filled_all (λ _. 0) marks);
      output_is = W.output_is ∙ ap (λ (f : List ℕ). after (output_step (length f) (length output) ∷ []) (overwrite f output) output) q;
    }

-- a front part of a list, cleared
cleared_front : (m : ℕ) (s : List ℕ) → m ≤ length s → cleared (length (take m s)) (take m s) ++ drop m s ≡ cleared m s
unfolding filled overwrite
cleared_front m s h =
    let e : length (take m s) ≡ m = length-take-le m s h in
    ap (λ (l : List ℕ). l ++ drop m s) (filled_all (λ _. 0) (take m s) ∙ ap (tabulate (λ _. 0)) e)
    ∙ ap (λ (k : ℕ). tabulate (λ _. 0) m ++ drop k s) (sym (tabulate-length (λ _. 0) m))

-- requests past their checks can be marked
pub checked_input : (n : ℕ) (rows columns : List ℕ) → Passed (write_checks n rows columns) → (marks : List ℕ) → length marks ≡ mark_words n → MarkInput n rows columns marks
checked_input n rows columns p marks e =
    record { small = write_checks_small n rows columns p; requests = write_checks_requests n rows columns p; below = write_checks_below n rows columns p; all = e }

module _ (n : ℕ) (rows columns output scratch : List ℕ) where
  abbrev file : List ℕ
  file = requests_file n rows columns

  -- the requests are refused: nothing is touched
  pub requests_refused : (why : Refusal) → verdict (write_checks n rows columns) ≡ refused (refusal_number why)
      → RequestsWritten n rows columns output scratch (Err why) output scratch
  requests_refused why e =
      let part = append-refused (write_checks n rows columns) _ (refusal_number why) tt e in
      let whole = append-refused (mark_steps n rows columns (length scratch)) (output_step (length file) (length output) ∷ []) (refusal_number why) tt part in
      record {
        replies = sym (first_refused _ (refusal_number why) (length file) whole);
        output_is = sym (after_refused _ (refusal_number why) (overwrite file output) output whole);
        scratch_is = sym (after_refused _ (refusal_number why) _ scratch part);
      }

  module _ (p : Passed (write_checks n rows columns)) where
    -- 7: the scratch is below the marks' words
    pub scratch_short : length scratch < mark_words n → RequestsWritten n rows columns output scratch (Err TooShort) output scratch
    scratch_short h =
        let t = lt-ltb (length scratch) (mark_words n) h in
        let part : verdict (mark_steps n rows columns (length scratch)) ≡ refused 7 = append_passed (write_checks n rows columns) _ tt p ∙ first_hit 7 _ tt t in
        let whole = append-refused (mark_steps n rows columns (length scratch)) (output_step (length file) (length output) ∷ []) 7 tt part in
        record {
          replies = sym (first_refused _ 7 (length file) whole);
          output_is = sym (after_refused _ 7 (overwrite file output) output whole);
          scratch_is = sym (after_refused _ 7 _ scratch part);
        }

    -- the marks are the scratch's first words
    pub scratch_part : {reply : Result ℕ Refusal} {part left output' scratch' : List ℕ} → mark_words n ≤ length scratch → part ≡ take (mark_words n) scratch
        → scratch' ≡ left ++ drop (mark_words n) scratch
        → SetWritten n (requested rows columns) reply part output left output' → RequestsWritten n rows columns output scratch reply output' scratch'
    unfolding after
    scratch_part {reply} {part} h a q W =
        let t = le-ltb (length scratch) (mark_words n) h in
        let m : Passed (mark_steps n rows columns (length scratch)) = append_passed (write_checks n rows columns) _ tt p ∙ first_skip 7 [] tt t (first_end tt) in
        record {
          replies = W.replies ∙ sym (append_passed (mark_steps n rows columns (length scratch)) _ (length file) m);
          output_is = W.output_is ∙ ap (settle output) (sym (append_passed (mark_steps n rows columns (length scratch)) _ (overwrite file output) m));
          scratch_is =
              q ∙ ap (λ (l : List ℕ). l ++ drop (mark_words n) scratch) (W.clears ∙ ap (λ (l : List ℕ). cleared (length l) l) a)
              ∙ cleared_front (mark_words n) scratch h
              ∙ sym (after_passed (mark_steps n rows columns (length scratch)) _ scratch m);
        }
