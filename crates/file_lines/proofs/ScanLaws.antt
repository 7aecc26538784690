-- Laws of a text read from its front: its first line, runs of blanks and of digits, and the numbers of its first line.
-- Assumes nothing.
use Prim.Native.Nat.{ℕ, zero, suc, ◌+◌, ◌-◌, ◌*◌, ◌<◌}
use native.Mathlib.Omega.{arith}
use native.Mathlib.Numerals.{add-one}
use mathlib.Core.Path.{◌≡◌, refl, sym, ap, ap₂, ◌∙◌}
use mathlib.Core.Bool.{Bool, true, false, cond, not, ◌&&◌, false≢true}
use mathlib.Core.List.{List, [], ◌∷◌}
use lib.Dec.{eqb}
use lib.ListN.{length, get_or, drop}
use lib.Seq.{drop-cons}
use borrow.Author.Tests.{eqb-true, eq-eqb, ne_eqb}
use Rattle.matrix_market.specs.Text.{on_first, split, lines, empty, is_blank, is_digit, numeral}
use Rattle.matrix_market.specs.File.{first_line, later_lines}
use Rattle.file_lines.specs.Scan.{line_of, rest_of, front, past, unblank, digits_of, undigit, field_there, unfield, nth_number, cut}

-- ---- the first line
-- the text's lines are its first line and the lines behind it
next_of : (e : Bool) (b : ℕ) (t l : List ℕ) (r : List ℕ) → on_first b (lines t) ≡ (b ∷ l) ∷ lines r →
    cond e ([] ∷ lines t) (on_first b (lines t)) ≡ cond e [] (b ∷ l) ∷ lines (cond e t r)
next_of true b t l r h = refl
next_of false b t l r h = h

pub lines_next : (b : ℕ) (t : List ℕ) → lines (b ∷ t) ≡ line_of (b ∷ t) ∷ lines (rest_of (b ∷ t))
unfolding split line_of rest_of on_first
lines_next b [] = next_of (eqb b 10) b [] [] [] refl
lines_next b (c ∷ t) = next_of (eqb b 10) b (c ∷ t) (line_of (c ∷ t)) (rest_of (c ∷ t)) (ap (on_first b) (lines_next c t))

pub first_line_is : (t : List ℕ) → first_line (lines t) ≡ line_of t
unfolding split line_of first_line
first_line_is [] = refl
first_line_is (b ∷ t) = ap first_line (lines_next b t)

pub later_lines_are : (t : List ℕ) → later_lines (lines t) ≡ lines (rest_of t)
unfolding split rest_of later_lines
later_lines_are [] = refl
later_lines_are (b ∷ t) = ap later_lines (lines_next b t)

-- behind the first line's end, byte by byte
pub rest_none : rest_of [] ≡ []
unfolding rest_of
rest_none = refl

pub rest_end : (b : ℕ) (t : List ℕ) → b ≡ 10 → rest_of (b ∷ t) ≡ t
unfolding rest_of
rest_end b t h = rw (eq-eqb b 10 h)

pub rest_more : (b : ℕ) (t : List ℕ) → (b ≡ 10 → ⊥) → rest_of (b ∷ t) ≡ rest_of t
unfolding rest_of
rest_more b t h = rw (ne_eqb b 10 h)

-- the first byte, a line end where there is none
unfoldable pub head_byte : List ℕ → ℕ
head_byte [] = 10
head_byte (b ∷ t) = b

pub head_byte_end : head_byte [] ≡ 10
unfolding head_byte
head_byte_end = refl

pub head_byte_is : (b : ℕ) (t : List ℕ) → head_byte (b ∷ t) ≡ b
unfolding head_byte
head_byte_is b t = refl

pub line_empty : (t : List ℕ) → empty (line_of t) ≡ eqb (head_byte t) 10
unfolding line_of head_byte
line_empty [] = refl
line_empty (b ∷ t) = of (eqb b 10)
  where
    of : (e : Bool) → empty (cond e [] (b ∷ line_of t)) ≡ e
    of true = refl
    of false = refl

-- ---- laws of runs: a byte more, the end, and what a line has of them
module _ (test : ℕ → Bool) where
  pub past_more : (b : ℕ) (t : List ℕ) → test b ≡ true → past test (b ∷ t) ≡ past test t
  unfolding past
  past_more b t h = rw h

  pub past_stop : (b : ℕ) (t : List ℕ) → test b ≡ false → past test (b ∷ t) ≡ b ∷ t
  unfolding past
  past_stop b t h = rw h

  pub past_end : past test [] ≡ []
  unfolding past
  past_end = refl

  pub front_more : (b : ℕ) (t : List ℕ) → test b ≡ true → front test (b ∷ t) ≡ b ∷ front test t
  unfolding front
  front_more b t h = rw h

  pub front_stop : (b : ℕ) (t : List ℕ) → test b ≡ false → front test (b ∷ t) ≡ []
  unfolding front
  front_stop b t h = rw h

  pub front_end : front test [] ≡ []
  unfolding front
  front_end = refl

  -- twice is once
  past_twice-of : (e : Bool) (b : ℕ) (t : List ℕ) → test b ≡ e → past test (past test t) ≡ past test t
      → past test (cond e (past test t) (b ∷ t)) ≡ cond e (past test t) (b ∷ t)
  past_twice-of true b t d h = h
  past_twice-of false b t d h = past_stop b t d

  pub past_twice : (t : List ℕ) → past test (past test t) ≡ past test t
  unfolding past
  past_twice [] = refl
  past_twice (b ∷ t) = past_twice-of (test b) b t refl (past_twice t)

  -- the first byte behind the run fails the test
  past_head-of : (e : Bool) (b c : ℕ) (t r : List ℕ) → test c ≡ e → (past test t ≡ b ∷ r → test b ≡ false) → cond e (past test t) (c ∷ t) ≡ b ∷ r
      → test b ≡ false
  past_head-of true b c t r d h q = h q
  past_head-of false b c t r d h q = let z : c ≡ b = cc in ap test (sym z) ∙ d

  pub past_head : (t : List ℕ) (b : ℕ) (r : List ℕ) → past test t ≡ b ∷ r → test b ≡ false
  unfolding past
  past_head [] b r q = let z : ◌≡◌ {A = ℕ} 0 1 = cc in absurd (omega arith)
  past_head (c ∷ t) b r q = past_head-of (test c) b c t r refl (past_head t b r) q

  -- where no line end passes the test, the runs are in the line
  module _ (inline : test 10 ≡ false) where
    past_line_of : (e f : Bool) (b : ℕ) (t : List ℕ) → eqb b 10 ≡ e → test b ≡ f → past test (line_of t) ≡ line_of (past test t) →
        past test (cond e [] (b ∷ line_of t)) ≡ line_of (cond f (past test t) (b ∷ t))
    unfolding past line_of
    past_line_of true true b t d g h = absurd (false≢true (sym inline ∙ ap test (sym (eqb-true b 10 d)) ∙ g))
    past_line_of true false b t d g h = rw d
    past_line_of false true b t d g h = rw g h
    past_line_of false false b t d g h = rw (g, d)

    pub past_line : (t : List ℕ) → past test (line_of t) ≡ line_of (past test t)
    unfolding past line_of
    past_line [] = refl
    past_line (b ∷ t) = past_line_of (eqb b 10) (test b) b t refl refl (past_line t)

    past_rest_of : (e f : Bool) (b : ℕ) (t : List ℕ) → eqb b 10 ≡ e → test b ≡ f → rest_of (past test t) ≡ rest_of t →
        rest_of (cond f (past test t) (b ∷ t)) ≡ cond e t (rest_of t)
    unfolding rest_of
    past_rest_of true true b t d g h = absurd (false≢true (sym inline ∙ ap test (sym (eqb-true b 10 d)) ∙ g))
    past_rest_of true false b t d g h = rw d
    past_rest_of false true b t d g h = h
    past_rest_of false false b t d g h = rw d

    pub past_rest : (t : List ℕ) → rest_of (past test t) ≡ rest_of t
    unfolding past rest_of
    past_rest [] = refl
    past_rest (b ∷ t) = past_rest_of (eqb b 10) (test b) b t refl refl (past_rest t)

    front_line_of : (e f : Bool) (b : ℕ) (t : List ℕ) → eqb b 10 ≡ e → test b ≡ f → front test (line_of t) ≡ front test t →
        front test (cond e [] (b ∷ line_of t)) ≡ cond f (b ∷ front test t) []
    unfolding front
    front_line_of true true b t d g h = absurd (false≢true (sym inline ∙ ap test (sym (eqb-true b 10 d)) ∙ g))
    front_line_of true false b t d g h = refl
    front_line_of false true b t d g h = rw g (ap (λ (l : List ℕ). b ∷ l) h)
    front_line_of false false b t d g h = rw g

    pub front_line : (t : List ℕ) → front test (line_of t) ≡ front test t
    unfolding front line_of
    front_line [] = refl
    front_line (b ∷ t) = front_line_of (eqb b 10) (test b) b t refl refl (front_line t)

-- ---- laws of the numbers in a text's first line
blank_inline : is_blank 10 ≡ false
unfolding is_blank
blank_inline = refl

digit_inline : is_digit 10 ≡ false
unfolding is_digit
digit_inline = refl

-- k numbers, blanks around them, and no more
unfoldable pub shape : ℕ → List ℕ → Bool
shape zero t = empty (unblank t)
shape (suc k) t = field_there t && shape k (unfield t)

module _ (t : List ℕ) where
  pub unblank_line : unblank (line_of t) ≡ line_of (unblank t)
  unblank_line = past_line is_blank blank_inline t

  pub unblank_rest : rest_of (unblank t) ≡ rest_of t
  unblank_rest = past_rest is_blank blank_inline t

  pub digits_line : digits_of (unblank (line_of t)) ≡ digits_of (unblank t)
  digits_line = ap digits_of unblank_line ∙ front_line is_digit digit_inline (unblank t)

  pub unfield_line : unfield (line_of t) ≡ line_of (unfield t)
  unfield_line = ap undigit unblank_line ∙ past_line is_digit digit_inline (unblank t)

  pub unfield_rest : rest_of (unfield t) ≡ rest_of t
  unfield_rest = past_rest is_digit digit_inline (unblank t) ∙ unblank_rest

  pub shape_none : shape 0 (line_of t) ≡ empty (line_of (unblank t))
  unfolding shape
  shape_none = ap empty unblank_line

  pub shape_more : (k : ℕ) → shape (suc k) (line_of t) ≡ (field_there t && shape k (line_of (unfield t)))
  unfolding shape
  shape_more k = ap₂ ◌&&◌ (ap (λ (l : List ℕ). not (empty l)) digits_line) (ap (shape k) unfield_line)

  pub number_first : nth_number 0 (line_of t) ≡ numeral 0 (digits_of (unblank t))
  unfolding nth_number
  number_first = ap (numeral 0) digits_line

  pub number_later : (i : ℕ) → nth_number (suc i) (line_of t) ≡ nth_number i (line_of (unfield t))
  unfolding nth_number
  number_later i = ap (nth_number i) unfield_line

-- ---- laws of numbers
pub numeral_more : (x d : ℕ) (ds : List ℕ) → numeral x (d ∷ ds) ≡ numeral (x * 10 + (d - 48)) ds
unfolding numeral
numeral_more x d ds = refl

pub numeral_end : (x : ℕ) → numeral x [] ≡ x
unfolding numeral
numeral_end x = refl

-- what is cut off early is cut off at the end
pub cut_early : (ds : List ℕ) (x : ℕ) → cut (numeral (cut x) ds) ≡ cut (numeral x ds)
unfolding numeral
cut_early [] x = omega arith
cut_early (d ∷ ds) x =
    let e : cut (cut x * 10 + (d - 48)) ≡ cut (x * 10 + (d - 48)) = omega arith in
    sym (cut_early ds (cut x * 10 + (d - 48))) ∙ ap (λ (y : ℕ). cut (numeral y ds)) e ∙ cut_early ds (x * 10 + (d - 48))

-- ---- a place of a text
pub drop_next : (l : List ℕ) (i : ℕ) → i < length l → drop i l ≡ get_or l i 0 ∷ drop (i + 1) l
drop_next l i h = rw (add-one, drop-cons l i 0)
