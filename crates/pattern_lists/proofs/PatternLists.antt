-- The pairs of a set marked and listed, with the marks in the scratch.
-- Assumes nothing.
use Prim.Native.Nat.{ℕ, ◌≤◌, ◌<◌}
use native.Mathlib.Omega.{arith}
use mathlib.Core.Path.{◌≡◌, refl, sym, ap, ap₂, subst, ◌∙◌}
use mathlib.Core.Bool.{Bool, ◌||◌}
use mathlib.Core.List.{List, [], ◌∷◌, ◌++◌}
use lib.ListN.{length, get_or, take, drop}
use lib.Seq.{length-take-le}
use borrow.Author.Tests.{lt-ltb, le-ltb}
use Rattle.lists.specs.Tabulate.{tabulate, tabulate-length}
use Rattle.lists.specs.Overwrite.{overwrite, filled, cleared, filled_at, filled-length, filled_all}
use Rattle.refusal.specs.Steps.{first, after, settle}
use Rattle.refusal.proofs.Steps.{first_hit, first_skip, first_end, first_refused, after_refused, after_passed}
use Rattle.refusal.specs.declared.Refusal.TheVariants.{TooShort}
use Rattle.pairs.specs.Scratch.{mark_words}
use Rattle.pairs.specs.Pair.{pair_count, pair_rows, pair_columns}
use Rattle.pairs.proofs.Pair.{pair_count_cong, pair_rows_cong, pair_columns_cong}
use Rattle.pairs.specs.Marks.{Added, marking}
use Rattle.pairs.proofs.Marks.{marking_none, pair_marked}
use Rattle.pattern_lists.specs.ListedMarks.{pair_output_steps, ListedMarks}
use Rattle.pattern_lists.specs.PatternLists.{pattern_words, scratch_step, PatternLists}
use Rattle.std.specs.Prelude.{Err, Result}
use Rattle.refusal.specs.declared.Refusal.{Refusal}

-- all words cleared: no pair is marked
pub cleared_zero : (s s' : List ℕ) → s' ≡ cleared (length s) s → (p : ℕ) → p < length s' → get_or s' p 0 ≡ 0
cleared_zero s s' e p l =
    ap (λ (x : List ℕ). get_or x p 0) e
    ∙ filled_at (λ _. 0) (length s) s p 0 (subst (λ (k : ℕ). p < k) (ap length e ∙ filled-length (λ _. 0) (length s) s (omega arith)) l)

-- marks cleared, the pairs of a set marked, and the marked pairs listed: the pairs of the set are listed
module _ (n : ℕ) (S T : ℕ → ℕ → Bool) (agree : (r c : ℕ) → c ≤ r → r < n → T r c ≡ S r c) (marks rows columns : List ℕ) (all : length marks ≡ mark_words n) where
  pub listed_set : {reply : Result ℕ Refusal} {clean marked left rows' columns' : List ℕ} → clean ≡ cleared (length marks) marks → Added T clean marked
      → ListedMarks n (marking marked) reply marked rows columns left rows' columns' → ListedMarks n S reply marks rows columns left rows' columns'
  listed_set {reply} {clean} {marked} {left} {rows'} {columns'} c A L =
      let long : length clean ≡ length marks = ap length c ∙ filled-length (λ _. 0) (length marks) marks (omega arith) in
      let same : (r c : ℕ) → c ≤ r → r < n → marking marked r c ≡ S r c =
      λ r k h l.
      let inside = pair_marked n clean (long ∙ all) r k h l in
      A.sets r k h
      ∙ ap (λ (b : Bool). b || T r k) (marking_none clean (cleared_zero marks clean c) r k inside)
      ∙ agree r k h l in
      let count_same = pair_count_cong n (marking marked) S same in
      record {
        replies = L.replies ∙ ap (λ (k : ℕ). first (pair_output_steps k (length rows) (length columns)) k) count_same;
        clears =
            L.clears ∙ filled_all (λ _. 0) marked ∙ ap (tabulate (λ _. 0)) (A.long ∙ long) ∙ sym (filled_all (λ _. 0) marks);
        rows_are =
            L.rows_are
            ∙ ap₂ (λ (k : ℕ) (l : List ℕ). after (pair_output_steps k (length rows) (length columns)) (overwrite l rows) rows) count_same (pair_rows_cong n (marking marked) S same);
        columns_are =
            L.columns_are
            ∙ ap₂ (λ (k : ℕ) (l : List ℕ). after (pair_output_steps k (length rows) (length columns)) (overwrite l columns) columns) count_same (pair_columns_cong n (marking marked) S same);
      }

-- ---- the scratch

-- a front part of a list, cleared
cleared_front : (m : ℕ) (s : List ℕ) → m ≤ length s → cleared (length (take m s)) (take m s) ++ drop m s ≡ cleared m s
unfolding filled overwrite
cleared_front m s h =
    let e : length (take m s) ≡ m = length-take-le m s h in
    ap (λ (l : List ℕ). l ++ drop m s) (filled_all (λ _. 0) (take m s) ∙ ap (tabulate (λ _. 0)) e)
    ∙ ap (λ (k : ℕ). tabulate (λ _. 0) m ++ drop k s) (sym (tabulate-length (λ _. 0) m))

module _ (n : ℕ) (S : ℕ → ℕ → Bool) (scratch rows columns : List ℕ) where
  -- 7: the scratch is below the marks' words
  pub scratch_short : length scratch < pattern_words n → PatternLists [] n S (Err TooShort) scratch rows columns scratch rows columns
  scratch_short h =
      let t = lt-ltb (length scratch) (pattern_words n) h in
      let whole = first_hit 7 (pair_output_steps (pair_count n S) (length rows) (length columns)) tt t in
      record {
        replies = sym (first_refused _ 7 (pair_count n S) whole);
        scratch_is = sym (after_refused _ 7 _ scratch (first_hit 7 [] tt t));
        rows_are = sym (after_refused _ 7 (overwrite (pair_rows n S) rows) rows whole);
        columns_are = sym (after_refused _ 7 (overwrite (pair_columns n S) columns) columns whole);
      }

  -- the marks are the scratch's first words
  pub scratch_part : {reply : Result ℕ Refusal} {part left scratch' rows' columns' : List ℕ} → pattern_words n ≤ length scratch → part ≡ take (pattern_words n) scratch → scratch' ≡ left ++ drop (pattern_words n) scratch
      → ListedMarks n S reply part rows columns left rows' columns' → PatternLists [] n S reply scratch rows columns scratch' rows' columns'
  unfolding after
  scratch_part {reply} {part} h p q L =
      let t = le-ltb (length scratch) (pattern_words n) h in
      let rest = pair_output_steps (pair_count n S) (length rows) (length columns) in
      record {
        replies = L.replies ∙ sym (first_skip 7 rest (pair_count n S) t refl);
        scratch_is =
            q ∙ ap (λ (l : List ℕ). l ++ drop (pattern_words n) scratch) (L.clears ∙ ap (λ (l : List ℕ). cleared (length l) l) p)
            ∙ cleared_front (pattern_words n) scratch h
            ∙ sym (after_passed (scratch_step n (length scratch) ∷ []) _ scratch (first_skip 7 [] tt t (first_end tt)));
        rows_are = L.rows_are ∙ ap (settle rows) (sym (first_skip 7 rest (overwrite (pair_rows n S) rows) t refl));
        columns_are = L.columns_are ∙ ap (settle columns) (sym (first_skip 7 rest (overwrite (pair_columns n S) columns) t refl));
      }
