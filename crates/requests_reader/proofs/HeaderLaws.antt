-- How the functions that read the header and comments go on by a byte or a line.
-- Assumes nothing.
use Prim.Native.Nat.{ℕ, ◌+◌, ◌≤◌, ◌<◌}
use native.Mathlib.Omega.{arith}
use mathlib.Core.Path.{◌≡◌, refl, sym, ap, ap₂, subst, ◌∙◌}
use mathlib.Core.Bool.{Bool, true, false, cond, ◌||◌, false≢true}
use mathlib.Core.List.{List, [], ◌∷◌}
use lib.Dec.{eqb}
use lib.ListN.{length, get_or, drop, drop_of_length-le}
use borrow.Author.Tests.{eqb-true, eq-eqb, ne_eqb}
use Rattle.std.specs.Option.{MatchOption}
use Rattle.std.specs.Result.{MatchResult, result_ok}
use Rattle.std.proofs.Common.{Result, Ok, Err}
use Rattle.lists.specs.Test.{or_left}
use Rattle.matrix_market.specs.Text.{split, lines, fields, empty}
use Rattle.matrix_market.specs.File.{same_bytes, comment, skipped, from_size}
use Rattle.file_lines.specs.Scan.{line_of, rest_of, unblank}
use Rattle.file_lines.specs.Places.{EndAt}
use Rattle.file_lines.proofs.ScanLaws.{unblank_line, lines_next, drop_next, rest_none, rest_end, rest_more, head_byte, head_byte_end, head_byte_is}
use Rattle.file_lines.proofs.FieldLaws.{fields-empty}
use Rattle.requests_reader.specs.HeaderLines.{RestAt, OverAt, SizeAt, LabelAt}

-- ---- the first line against another, byte by byte
pub same_bytes_end : (t : List ℕ) → same_bytes (line_of t) [] ≡ eqb (head_byte t) 10
unfolding line_of head_byte same_bytes
same_bytes_end [] = refl
same_bytes_end (b ∷ t) = of (eqb b 10)
  where
    of : (e : Bool) → same_bytes (cond e [] (b ∷ line_of t)) [] ≡ e
    of true = refl
    of false = refl

pub same_bytes_short : (t s : List ℕ) (a : ℕ) → head_byte t ≡ 10 → same_bytes (line_of t) (a ∷ s) ≡ false
unfolding line_of head_byte same_bytes
same_bytes_short [] s a h = refl
same_bytes_short (b ∷ t) s a h = rw h

pub same_bytes_other : (b : ℕ) (t s : List ℕ) (a : ℕ) → (b ≡ a → ⊥) → same_bytes (line_of (b ∷ t)) (a ∷ s) ≡ false
unfolding line_of same_bytes
same_bytes_other b t s a h = of (eqb b 10)
  where
    of : (e : Bool) → same_bytes (cond e [] (b ∷ line_of t)) (a ∷ s) ≡ false
    of true = refl
    of false = rw (ne_eqb b a h)

pub same_bytes_more : (b : ℕ) (t s : List ℕ) (a : ℕ) → (b ≡ 10 → ⊥) → b ≡ a → same_bytes (line_of (b ∷ t)) (a ∷ s) ≡ same_bytes (line_of t) s
unfolding line_of same_bytes
same_bytes_more b t s a n h = rw (ne_eqb b 10 n) (rw (eq-eqb b a h))

-- ---- the lines in front: a comment or blank line is passed over, any other is the size line
pub from_size_end : from_size (lines []) ≡ lines []
unfolding from_size split
from_size_end = refl

module _ (b : ℕ) (t : List ℕ) where
  pub from_size_more : skipped (line_of (b ∷ t)) ≡ true → from_size (lines (b ∷ t)) ≡ from_size (lines (rest_of (b ∷ t)))
  unfolding from_size
  from_size_more h = ap from_size (lines_next b t) ∙ rw h

  pub from_size_stop : skipped (line_of (b ∷ t)) ≡ false → from_size (lines (b ∷ t)) ≡ lines (b ∷ t)
  unfolding from_size
  from_size_stop h = ap from_size (lines_next b t) ∙ rw h (sym (lines_next b t))

  comment-of : (e : Bool) → eqb b 10 ≡ e → comment (cond e [] (b ∷ line_of t)) ≡ eqb b 37
  unfolding comment
  comment-of true d = rw (eqb-true b 10 d)
  comment-of false d = refl

  pub comment_first : comment (line_of (b ∷ t)) ≡ eqb b 37
  unfolding line_of
  comment_first = comment-of (eqb b 10) refl

-- ---- behind a line
abbrev pub SkipLineLoop : List ℕ → ℕ → ℕ → Type 0
SkipLineLoop text p i = rest_of (drop i text) ≡ rest_of (drop p text)

module _ (text : List ℕ) (p i : ℕ) (s : SkipLineLoop text p i) where
  pub skip_line_more : i < length text → (get_or text i 0 ≡ 10 → ⊥) → SkipLineLoop text p (i + 1)
  skip_line_more l h = sym (ap rest_of (drop_next text i l) ∙ rest_more _ _ h) ∙ s

  pub skip_line_stop : p ≤ i → i < length text → get_or text i 0 ≡ 10 → RestAt text p (i + 1)
  skip_line_stop a l h =
      record { left = sym (ap rest_of (drop_next text i l) ∙ rest_end _ _ h) ∙ s; past_it = λ _. omega arith; within = omega arith }

  pub skip_line_end : length text ≤ i → RestAt text p (length text)
  skip_line_end h =
      let none : drop i text ≡ [] = drop_of_length-le text h in
      record { left = drop_of_length-le text (omega arith) ∙ sym (ap rest_of none ∙ rest_none) ∙ s; past_it = λ l. l; within = omega arith }

-- ---- a comment or a blank line
module _ (text : List ℕ) (p : ℕ) (l : p < length text) where
  first_byte : comment (line_of (drop p text)) ≡ eqb (get_or text p 0) 37
  first_byte = ap (λ (t : List ℕ). comment (line_of t)) (drop_next text p l) ∙ comment_first _ _

  pub over_comment : (r : ℕ) → get_or text p 0 ≡ 37 → RestAt text p r → OverAt text p true r
  over_comment r h s =
      record {
        found = sym (or_left _ _ (first_byte ∙ eq-eqb _ _ h));
        left = λ _. s.left;
        past_it = λ _. s.past_it l;
        within = s.within;
      }

  over_is : (ended : Bool) → (get_or text p 0 ≡ 37 → ⊥) → ended ≡ empty (line_of (unblank (drop p text))) → ended ≡ skipped (line_of (drop p text))
  over_is ended h e =
      e ∙ ap empty (sym (unblank_line (drop p text))) ∙ sym (fields-empty (line_of (drop p text)))
      ∙ ap (λ (b : Bool). b || empty (fields (line_of (drop p text)))) (sym (first_byte ∙ ne_eqb _ _ h))

  pub over_end : (get_or text p 0 ≡ 37 → ⊥) → (end : Result ℕ ℕ) → MatchResult end (EndAt text p true) (EndAt text p false)
      → MatchOption (result_ok end) (OverAt text p false 0) (OverAt text p true)
  over_end h (Ok next) e = record { found = over_is true h e.found; left = e.left; past_it = λ q. e.past_it q l; within = e.within }
  over_end h (Err at) e =
      record { found = over_is false h e.found; left = λ q. absurd (false≢true q); past_it = λ q. absurd (false≢true q); within = omega arith }

-- ---- the size line's place
pub record SkipCommentsLoop (text : List ℕ) (p i : ℕ) : Type 0 where
  pub left : from_size (lines (drop i text)) ≡ from_size (lines (drop p text))
  pub within : i ≤ length text

module _ (text : List ℕ) (p : ℕ) where
  pub skip_comments_start : p ≤ length text → SkipCommentsLoop text p p
  skip_comments_start h = record { left = refl; within = h }

  module _ (i : ℕ) (s : SkipCommentsLoop text p i) where
    module _ (l : i < length text) where
      here : (over : Bool) → over ≡ skipped (line_of (drop i text)) → skipped (line_of (get_or text i 0 ∷ drop (i + 1) text)) ≡ over
      here over o = ap (λ (t : List ℕ). skipped (line_of t)) (sym (drop_next text i l)) ∙ sym o

      pub skip_comments_more : (next : ℕ) → OverAt text i true next → SkipCommentsLoop text p next
      skip_comments_more next o =
          record {
            left =
                ap (λ (t : List ℕ). from_size (lines t)) (o.left refl ∙ ap rest_of (drop_next text i l)) ∙ sym (from_size_more _ _ (here true o.found))
                ∙ ap (λ (t : List ℕ). from_size (lines t)) (sym (drop_next text i l)) ∙ s.left;
            within = o.within;
          }

      pub skip_comments_stop : OverAt text i false 0 → SizeAt text p i
      skip_comments_stop o =
          record {
            left =
                ap lines (drop_next text i l) ∙ sym (from_size_stop _ _ (here false o.found))
                ∙ ap (λ (t : List ℕ). from_size (lines t)) (sym (drop_next text i l)) ∙ s.left;
            within = s.within;
          }

    pub skip_comments_end : length text ≤ i → SizeAt text p i
    skip_comments_end h =
        let none : drop i text ≡ [] = drop_of_length-le text h in
        record { left = ap lines none ∙ sym (ap (λ (t : List ℕ). from_size (lines t)) none ∙ from_size_end) ∙ s.left; within = s.within }

-- ---- the header
pub record FirstLineLoop (text label : List ℕ) (i : ℕ) : Type 0 where
  pub is : same_bytes (line_of (drop i text)) (drop i label) ≡ same_bytes (line_of text) label
  pub left : rest_of (drop i text) ≡ rest_of text
  pub within : i ≤ length text

module _ (text label : List ℕ) where
  pub first_line_start : FirstLineLoop text label 0
  first_line_start = record { is = refl; left = refl; within = omega arith }

  differs : same_bytes (line_of text) label ≡ false → LabelAt text label false 0
  differs h = record { is = sym h; left = λ e. absurd (false≢true e); within = omega arith }

  module _ (i : ℕ) (s : FirstLineLoop text label i) where
    module _ (l : i < length label) where
      pub first_line_short : length text ≤ i → LabelAt text label false 0
      first_line_short h =
          let none : drop i text ≡ [] = drop_of_length-le text h in
          differs
          (sym s.is ∙ ap (same_bytes (line_of (drop i text))) (drop_next label i l) ∙ same_bytes_short (drop i text) _ _ (ap head_byte none ∙ head_byte_end))

      module _ (k : i < length text) where
        both : same_bytes (line_of (drop i text)) (drop i label) ≡ same_bytes (line_of (get_or text i 0 ∷ drop (i + 1) text)) (get_or label i 0 ∷ drop (i + 1) label)
        both = ap₂ (λ (t u : List ℕ). same_bytes (line_of t) u) (drop_next text i k) (drop_next label i l)

        pub first_line_ended : get_or text i 0 ≡ 10 → LabelAt text label false 0
        first_line_ended h = differs (sym s.is ∙ both ∙ same_bytes_short _ _ _ (head_byte_is _ _ ∙ h))

        pub first_line_other : (get_or text i 0 ≡ get_or label i 0 → ⊥) → LabelAt text label false 0
        first_line_other h = differs (sym s.is ∙ both ∙ same_bytes_other _ _ _ _ h)

        pub first_line_more : (get_or text i 0 ≡ 10 → ⊥) → get_or text i 0 ≡ get_or label i 0 → FirstLineLoop text label (i + 1)
        first_line_more n h =
            record {
              is = sym (both ∙ same_bytes_more _ _ _ _ n h) ∙ s.is;
              left = sym (ap rest_of (drop_next text i k) ∙ rest_more _ _ n) ∙ s.left;
              within = omega arith;
            }

    -- all of the label
    pub first_line_whole : length label ≤ i → i ≤ length label → FirstLineLoop text label (length label)
    first_line_whole l h = let e : i ≡ length label = omega arith in subst (FirstLineLoop text label) e s

  module _ (s : FirstLineLoop text label (length label)) where
    done : same_bytes (line_of text) label ≡ eqb (head_byte (drop (length label) text)) 10
    done =
        sym s.is ∙ ap (same_bytes (line_of (drop (length label) text))) (drop_of_length-le label (omega arith))
        ∙ same_bytes_end (drop (length label) text)

    pub first_line_end : length text ≤ length label → LabelAt text label true (length label)
    first_line_end h =
        let none : drop (length label) text ≡ [] = drop_of_length-le text h in
        record {
          is = sym (done ∙ eq-eqb _ _ (ap head_byte none ∙ head_byte_end));
          left = λ _. none ∙ sym (ap rest_of none ∙ rest_none) ∙ s.left;
          within = s.within;
        }

    module _ (k : length label < length text) where
      byte : head_byte (drop (length label) text) ≡ get_or text (length label) 0
      byte = ap head_byte (drop_next text (length label) k) ∙ head_byte_is _ _

      pub first_line_same : get_or text (length label) 0 ≡ 10 → LabelAt text label true (length label + 1)
      first_line_same h =
          record {
            is = sym (done ∙ eq-eqb _ _ (byte ∙ h));
            left = λ _. sym (ap rest_of (drop_next text (length label) k) ∙ rest_end _ _ h) ∙ s.left;
            within = omega arith;
          }

      pub first_line_long : (get_or text (length label) 0 ≡ 10 → ⊥) → LabelAt text label false 0
      first_line_long h = differs (done ∙ ne_eqb _ _ (λ e. h (sym byte ∙ e)))
