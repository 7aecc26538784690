-- How the functions that read a text from a place on go on by a byte or a field.
-- Assumes nothing.
use Prim.Native.Nat.{ℕ, suc, ◌+◌, ◌-◌, ◌*◌, ◌≤◌, ◌<◌}
use native.Mathlib.Omega.{arith}
use mathlib.Core.Path.{◌≡◌, refl, sym, ap, subst, ◌∙◌}
use mathlib.Core.Bool.{Bool, true, false, not, ◌&&◌, false≢true}
use mathlib.Core.List.{List, [], ◌∷◌}
use lib.Dec.{eqb, ltb}
use lib.ListN.{length, get_or, drop, drop_of_length-le}
use borrow.Author.Tests.{ltb-true, lt-ltb, le-ltb, eq-eqb, ne_eqb}
use Rattle.matrix_market.specs.Text.{empty, is_blank, is_digit, numeral}
use Rattle.matrix_market.specs.File.{are_numbers, number}
use Rattle.file_lines.specs.Scan.{line_of, rest_of, past, unblank, digits_of, undigit, unfield, field_there, nth_number, cut}
use Rattle.file_lines.specs.Places.{Skipped, NumberAt, DigitsRead, FieldAt, fields_at, LineAt, EndAt, PairAt, TripleAt}
use Rattle.file_lines.proofs.ScanLaws.{cut_early, numeral_more, numeral_end, past_more, past_stop, past_end, front_more, front_stop, front_end}
use Rattle.file_lines.proofs.ScanLaws.{shape, shape_none, shape_more, number_first, number_later, unfield_rest, unblank_rest}
use Rattle.file_lines.proofs.ScanLaws.{drop_next, rest_none, rest_end, head_byte, head_byte_end, head_byte_is, line_empty}
use Rattle.file_lines.proofs.FieldLaws.{shape-fields, number-fields}

-- ---- a run of bytes
-- while a run of bytes that pass the test goes on, from p to i
abbrev pub SkipLoop : (ℕ → Bool) → List ℕ → ℕ → ℕ → Type 0
SkipLoop test text p i = past test (drop i text) ≡ past test (drop p text)

module _ (test : ℕ → Bool) (text : List ℕ) (p i : ℕ) (s : SkipLoop test text p i) where
  pub skip_more : i < length text → test (get_or text i 0) ≡ true → SkipLoop test text p (i + 1)
  skip_more l h = sym (ap (past test) (drop_next text i l) ∙ past_more test _ _ h) ∙ s

  pub skip_stop : p ≤ i → i < length text → test (get_or text i 0) ≡ false → Skipped test text p i
  skip_stop a l h =
      record {
        left = drop_next text i l ∙ sym (ap (past test) (drop_next text i l) ∙ past_stop test _ _ h) ∙ s;
        above = a;
        within = omega arith;
      }

  pub skip_end : p ≤ length text → length text ≤ i → Skipped test text p (length text)
  skip_end a h =
      let none : drop i text ≡ [] = drop_of_length-le text h in
      record { left = drop_of_length-le text (omega arith) ∙ sym (ap (past test) none ∙ past_end test) ∙ s; above = a; within = omega arith }

-- ---- a number
some_digits : (ds : List ℕ) (p i : ℕ) → i + 0 ≡ p + length ds → not (empty ds) ≡ ltb p i
some_digits [] p i e = sym (le-ltb p i (omega arith))
some_digits (d ∷ ds) p i e = sym (lt-ltb p i (omega arith))

module _ (text : List ℕ) (p : ℕ) where
  pub number_start : p ≤ length text → DigitsRead text p 0 p
  number_start h = record { is = refl; small = omega arith; left = refl; counted = refl; within = h }

  module _ (value i : ℕ) (s : DigitsRead text p value i) where
    pub number_more : (more : ℕ) → i < length text → is_digit (get_or text i 0) ≡ true → more ≡ cut (value * 10 + (get_or text i 0 - 48))
        → DigitsRead text p more (i + 1)
    number_more more l h m =
        let d : digits_of (drop i text) ≡ get_or text i 0 ∷ digits_of (drop (i + 1) text) = ap digits_of (drop_next text i l) ∙ front_more is_digit _ _ h in
        record {
          is =
              ap (λ (x : ℕ). cut (numeral x (digits_of (drop (i + 1) text)))) m ∙ cut_early (digits_of (drop (i + 1) text)) (value * 10 + (get_or text i 0 - 48))
              ∙ sym (ap (λ (l : List ℕ). cut (numeral value l)) d ∙ ap cut (numeral_more value (get_or text i 0) (digits_of (drop (i + 1) text)))) ∙ s.is;
          small = omega arith;
          left = sym (ap undigit (drop_next text i l) ∙ past_more is_digit _ _ h) ∙ s.left;
          counted = omega (arith, ap length d, s.counted);
          within = omega arith;
        }

    done : digits_of (drop i text) ≡ [] → undigit (drop i text) ≡ drop i text → NumberAt text p value i
    done d u =
        let n : i + 0 ≡ p + length (digits_of (drop p text)) = ap (λ (l : List ℕ). i + length l) (sym d) ∙ s.counted in
        record {
          is = sym (sym s.is ∙ ap (λ (l : List ℕ). cut (numeral value l)) d ∙ ap cut (numeral_end value) ∙ omega (arith, s.small));
          left = sym u ∙ s.left;
          there = some_digits (digits_of (drop p text)) p i n;
          above = omega arith;
          within = s.within;
        }

    pub number_stop : i < length text → is_digit (get_or text i 0) ≡ false → NumberAt text p value i
    number_stop l h =
        done (ap digits_of (drop_next text i l) ∙ front_stop is_digit _ _ h)
        (ap undigit (drop_next text i l) ∙ past_stop is_digit _ _ h ∙ sym (drop_next text i l))

    pub number_end : length text ≤ i → NumberAt text p value (length text)
    number_end h =
        let none : drop i text ≡ [] = drop_of_length-le text h in
        let end : i ≡ length text = omega (arith, s.within) in
        subst (NumberAt text p value) end (done (ap digits_of none ∙ front_end is_digit) (ap undigit none ∙ past_end is_digit ∙ sym none))

-- ---- a field: blanks and a number
module _ (text : List ℕ) (p at value next : ℕ) (s : Skipped is_blank text p at) (n : NumberAt text at value next) where
  pub field_of : FieldAt text p (ltb at next) value next
  field_of =
      record {
        found = sym n.there ∙ ap (λ (l : List ℕ). not (empty (digits_of l))) s.left;
        is = n.is ∙ ap (λ (l : List ℕ). cut (numeral 0 (digits_of l))) s.left ∙ ap cut (sym (number_first (drop p text)));
        left = n.left ∙ ap undigit s.left;
        above = omega (arith, s.above, n.above);
        past_it = λ e. let l : at < next = ltb-true at next e in omega (arith, s.above);
        within = n.within;
      }

  pub no_field : next ≡ at → field_there (drop p text) ≡ false
  no_field e = sym field_of.found ∙ le-ltb at next (omega arith)

  pub field_at : (next ≡ at → ⊥) → FieldAt text p true value next
  field_at e = subst (λ (b : Bool). FieldAt text p b value next) (lt-ltb at next (omega (arith, n.above, e))) field_of

-- ---- a line of k numbers
-- whether the line has the form: by its first field, and what is behind it
form : (k : ℕ) (text : List ℕ) (p : ℕ) (first : Bool) → field_there (drop p text) ≡ first
    → are_numbers (suc k) (fields_at text p) ≡ (first && shape k (line_of (unfield (drop p text))))
form k text p first h =
    sym (shape-fields (suc k) (line_of (drop p text))) ∙ shape_more (drop p text) k
    ∙ ap (λ (b : Bool). b && shape k (line_of (unfield (drop p text)))) h

-- no field
pub form_none : (k : ℕ) (text : List ℕ) (p : ℕ) → field_there (drop p text) ≡ false → are_numbers (suc k) (fields_at text p) ≡ false
form_none k text p h = form k text p false h

module _ (k : ℕ) (text : List ℕ) (p value mid : ℕ) (f : FieldAt text p true value mid) where
  -- a field and k more
  pub form_more : are_numbers (suc k) (fields_at text p) ≡ are_numbers k (fields_at text mid)
  form_more =
      form k text p true (sym f.found)
      ∙ sym (sym (shape-fields k (line_of (drop mid text))) ∙ ap (λ (t : List ℕ). shape k (line_of t)) f.left)

  pub line_more : (formed : Bool) (next : ℕ) → LineAt k text mid formed next → LineAt (suc k) text p formed next
  line_more formed next l =
      record {
        shaped = l.shaped ∙ sym form_more;
        left = λ e. l.left e ∙ ap rest_of f.left ∙ unfield_rest (drop p text);
        past_it = λ e. omega (arith, l.past_it e, f.past_it refl);
        within = l.within;
      }

-- its later numbers
pub number_next : (text : List ℕ) (p value mid : ℕ) (there : Bool) → FieldAt text p there value mid → (i : ℕ)
    → cut (nth_number i (line_of (drop mid text))) ≡ cut (nth_number (suc i) (line_of (drop p text)))
number_next text p value mid there f i = ap cut (ap (λ (t : List ℕ). nth_number i (line_of t)) f.left ∙ sym (number_later (drop p text) i))

-- a line of k + 1 numbers, read one after the other: the numbers of its fields
pub number_read : (k i : ℕ) (text : List ℕ) (p : ℕ) (formed : Bool) (next : ℕ) → i ≤ k → LineAt (suc k) text p formed next → formed ≡ true →
    cut (nth_number i (line_of (drop p text))) ≡ cut (number i (fields_at text p))
number_read k i text p formed next l line h =
    ap cut (number-fields i k l (line_of (drop p text)) (shape-fields (suc k) (line_of (drop p text)) ∙ sym line.shaped ∙ h))

-- ---- the end of a line
module _ (text : List ℕ) (p at : ℕ) (s : Skipped is_blank text p at) where
  pub end_none : length text ≤ at → EndAt text p true at
  end_none h =
      let none : drop at text ≡ [] = drop_of_length-le text h in
      let gone : unblank (drop p text) ≡ [] = sym s.left ∙ none in
      record {
        found = sym (line_empty (unblank (drop p text)) ∙ ap (λ (l : List ℕ). eqb (head_byte l) 10) gone ∙ eq-eqb _ _ head_byte_end);
        left = λ e. none ∙ sym (sym (unblank_rest (drop p text)) ∙ ap rest_of gone ∙ rest_none);
        stopped = λ e. absurd (false≢true (sym e));
        above = s.above;
        past_it = λ e l. omega arith;
        within = s.within;
      }

  module _ (l : at < length text) where
    here : unblank (drop p text) ≡ get_or text at 0 ∷ drop (at + 1) text
    here = sym s.left ∙ drop_next text at l

    head : head_byte (unblank (drop p text)) ≡ get_or text at 0
    head = ap head_byte here ∙ head_byte_is _ _

    pub end_here : get_or text at 0 ≡ 10 → EndAt text p true (at + 1)
    end_here h =
        record {
          found = sym (line_empty (unblank (drop p text)) ∙ eq-eqb _ _ (head ∙ h));
          left = λ e. sym (sym (unblank_rest (drop p text)) ∙ ap rest_of here ∙ rest_end _ _ h);
          stopped = λ e. absurd (false≢true (sym e));
          above = omega (arith, s.above);
          past_it = λ e k. omega (arith, s.above);
          within = omega arith;
        }

    pub end_not : (get_or text at 0 ≡ 10 → ⊥) → EndAt text p false at
    end_not h =
        record {
          found = sym (line_empty (unblank (drop p text)) ∙ ne_eqb _ _ (λ e. h (sym head ∙ e)));
          left = λ e. absurd (false≢true e);
          stopped = λ e. s.left;
          above = s.above;
          past_it = λ e k. absurd (false≢true e);
          within = s.within;
        }

pub line_end_lem : (text : List ℕ) (p : ℕ) (ended : Bool) (next : ℕ) → EndAt text p ended next → LineAt 0 text p ended next
line_end_lem text p ended next e =
    record {
      shaped = e.found ∙ sym (shape_none (drop p text)) ∙ shape-fields 0 (line_of (drop p text));
      left = e.left;
      past_it = λ f. omega (arith, e.above);
      within = e.within;
    }

-- ---- lines of two and of three numbers
no_line : (k : ℕ) (text : List ℕ) (p : ℕ) → are_numbers k (fields_at text p) ≡ false → LineAt k text p false 0
no_line k text p h = record { shaped = sym h; left = λ e. absurd (false≢true e); past_it = λ e. absurd (false≢true e); within = omega arith }

pub pair_not : (text : List ℕ) (p : ℕ) → are_numbers 2 (fields_at text p) ≡ false → PairAt text p false 0 0 0
pair_not text p h = record { line = no_line 2 text p h; first_is = λ e. absurd (false≢true e); second_is = λ e. absurd (false≢true e) }

pub triple_not : (text : List ℕ) (p : ℕ) → are_numbers 3 (fields_at text p) ≡ false → TripleAt text p false 0 0 0 0
triple_not text p h =
    record {
      line = no_line 3 text p h;
      first_is = λ e. absurd (false≢true e);
      second_is = λ e. absurd (false≢true e);
      third_is = λ e. absurd (false≢true e);
    }

-- a number and what follows it
module _ (text : List ℕ) (p a mid : ℕ) (f : FieldAt text p true a mid) where
  pub pair_whole : (b last next : ℕ) → FieldAt text mid true b last → EndAt text last true next → PairAt text p true a b next
  pair_whole b last next g e =
      let line = line_more 1 text p a mid f true next (line_more 0 text mid b last g true next (line_end_lem text last true next e)) in
      record {
        line = line;
        first_is = λ d. f.is ∙ number_read 1 0 text p true next (omega arith) line d;
        second_is = λ d. g.is ∙ number_next text p a mid true f 0 ∙ number_read 1 1 text p true next (omega arith) line d;
      }

  -- two numbers and something else before the line's end
  pub pair_cut : (b last at : ℕ) → FieldAt text mid true b last → EndAt text last false at → PairAt text p false 0 0 0
  pair_cut b last at g e =
      pair_not text p (form_more 1 text p a mid f ∙ form_more 0 text mid b last g ∙ sym (line_end_lem text last false at e).shaped)

  pub triple : (b c next : ℕ) → PairAt text mid true b c next → TripleAt text p true a b c next
  triple b c next l =
      let line = line_more 2 text p a mid f true next l.line in
      record {
        line = line;
        first_is = λ e. f.is ∙ number_read 2 0 text p true next (omega arith) line e;
        second_is = λ e.
            l.first_is e ∙ sym (number_read 1 0 text mid true next (omega arith) l.line e) ∙ number_next text p a mid true f 0
            ∙ number_read 2 1 text p true next (omega arith) line e;
        third_is = λ e.
            l.second_is e ∙ sym (number_read 1 1 text mid true next (omega arith) l.line e) ∙ number_next text p a mid true f 1
            ∙ number_read 2 2 text p true next (omega arith) line e;
      }
