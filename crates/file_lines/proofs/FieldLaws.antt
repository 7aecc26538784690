-- Numbers read one after the other are the fields of their line.
-- Assumes nothing.
use Prim.Native.Nat.{ℕ, zero, suc, ◌≤◌}
use native.Mathlib.Omega.{arith}
use mathlib.Core.Path.{◌≡◌, refl, sym, ap, ◌∙◌}
use mathlib.Core.Bool.{Bool, true, false, cond, not, ◌&&◌, false≢true}
use mathlib.Core.List.{List, [], ◌∷◌}
use lib.Dec.{eqb, leb}
use lib.ListN.{length}
use borrow.Author.Tests.{eqb-true, eq-eqb, leb-true, ne_eqb}
use Rattle.lists.specs.Every.{every}
use Rattle.lists.specs.Test.{and_left, and_right, same_truth}
use Rattle.matrix_market.specs.Text.{on_first, split, empty, nonempty, is_blank, fields, is_digit, numeral}
use Rattle.matrix_market.specs.File.{are_numbers, number}
use Rattle.file_lines.specs.Scan.{front, past, unblank, digits_of, undigit, field_there, unfield, nth_number}
use Rattle.file_lines.proofs.ScanLaws.{shape, past_head, past_stop, front_stop, past_twice}

-- ---- the fields, from the front of a line
pub fields_none : fields [] ≡ []
unfolding split nonempty
fields_none = refl

pub fields-blank : (b : ℕ) (t : List ℕ) → is_blank b ≡ true → fields (b ∷ t) ≡ fields t
unfolding split nonempty
fields-blank b t h = rw h

-- no blank, and what follows up to the next blank
abbrev inked : ℕ → Bool
inked b = not (is_blank b)

on_first_lem : (b c : ℕ) (s : List (List ℕ)) → nonempty (on_first b (on_first c s)) ≡ on_first b (nonempty (on_first c s))
unfolding nonempty on_first
on_first_lem b c [] = refl
on_first_lem b c (l ∷ ls) = refl

word_of : (e : Bool) (b c : ℕ) (t : List ℕ) → is_blank c ≡ e
    → (e ≡ false → nonempty (on_first c (split is_blank t)) ≡ (c ∷ front inked t) ∷ fields (past inked t))
    → nonempty (on_first b (cond e ([] ∷ split is_blank t) (on_first c (split is_blank t))))
    ≡ (b ∷ cond (not e) (c ∷ front inked t) []) ∷ fields (cond (not e) (past inked t) (c ∷ t))
unfolding nonempty on_first
word_of true b c t d h = ap (λ (r : List (List ℕ)). (b ∷ []) ∷ r) (sym (fields-blank c t d))
word_of false b c t d h = on_first_lem b c (split is_blank t) ∙ ap (on_first b) (h refl)

on_first_fields : (b : ℕ) (t : List ℕ) → nonempty (on_first b (split is_blank t)) ≡ (b ∷ front inked t) ∷ fields (past inked t)
unfolding split nonempty on_first front past
on_first_fields b [] = refl
on_first_fields b (c ∷ t) = word_of (is_blank c) b c t refl (λ _. on_first_fields c t)

pub fields_word : (b : ℕ) (t : List ℕ) → is_blank b ≡ false → fields (b ∷ t) ≡ (b ∷ front inked t) ∷ fields (past inked t)
unfolding split
fields_word b t h = rw h (on_first_fields b t)

unblank-of : (e : Bool) (b : ℕ) (t : List ℕ) → is_blank b ≡ e → fields (unblank t) ≡ fields t → fields (cond e (unblank t) (b ∷ t)) ≡ fields (b ∷ t)
unblank-of true b t d h = h ∙ sym (fields-blank b t d)
unblank-of false b t d h = refl

-- blanks in front change nothing
pub fields-unblank : (t : List ℕ) → fields (unblank t) ≡ fields t
unfolding past
fields-unblank [] = refl
fields-unblank (b ∷ t) = unblank-of (is_blank b) b t refl (fields-unblank t)

-- a line has no fields exactly if it is blank
empty_of : (u : List ℕ) → ((b : ℕ) (r : List ℕ) → u ≡ b ∷ r → is_blank b ≡ false) → empty (fields u) ≡ empty u
empty_of [] h = ap empty fields_none
empty_of (b ∷ t) h = ap empty (fields_word b t (h b t refl))

pub fields-empty : (t : List ℕ) → empty (fields t) ≡ empty (unblank t)
fields-empty t = ap empty (sym (fields-unblank t)) ∙ empty_of (unblank t) (past_head is_blank t)

-- ---- digits
pub digit_inked : (b : ℕ) → is_digit b ≡ true → is_blank b ≡ false
unfolding is_digit is_blank
digit_inked b h =
    let l : 48 ≤ b = leb-true 48 b (and_left (leb 48 b) (leb b 57) h) in
    let x : eqb b 32 ≡ false = ne_eqb b 32 (λ e. omega (arith, l, e)) in
    let y : eqb b 9 ≡ false = ne_eqb b 9 (λ e. omega (arith, l, e)) in
    rw (x, y)

-- a byte that is neither blank nor digit begins no number
shape_other : (k : ℕ) (b : ℕ) (t : List ℕ) → is_blank b ≡ false → is_digit b ≡ false → shape k (b ∷ t) ≡ false
unfolding shape
shape_other zero b t h g = ap empty (past_stop is_blank b t h)
shape_other (suc k) b t h g =
    ap (λ (u : List ℕ). not (empty (digits_of u)) && shape k (undigit u)) (past_stop is_blank b t h)
    ∙ ap (λ (u : List ℕ). not (empty u) && shape k (undigit (b ∷ t))) (front_stop is_digit b t g)

-- where the bytes up to the next blank are digits, these are the run of digits
digits_of_lem : (e f : Bool) (b : ℕ) (t : List ℕ) → is_digit b ≡ e → is_blank b ≡ f → every is_digit (cond (not f) (b ∷ front inked t) []) ≡ true →
    (every is_digit (front inked t) ≡ true → (digits_of t ≡ front inked t) × (undigit t ≡ past inked t)) →
    (cond e (b ∷ digits_of t) [] ≡ cond (not f) (b ∷ front inked t) []) × (cond e (undigit t) (b ∷ t) ≡ cond (not f) (past inked t) (b ∷ t))
unfolding every
digits_of_lem true true b t d g p h = absurd (false≢true (sym (digit_inked b d) ∙ g))
digits_of_lem true false b t d g p h = let r = h (and_right (is_digit b) _ p) in (ap (λ (u : List ℕ). b ∷ u) r.0, r.1)
digits_of_lem false true b t d g p h = (refl, refl)
digits_of_lem false false b t d g p h = absurd (false≢true (sym d ∙ and_left (is_digit b) _ p))

digits_all : (t : List ℕ) → every is_digit (front inked t) ≡ true → (digits_of t ≡ front inked t) × (undigit t ≡ past inked t)
unfolding front past
digits_all [] p = (refl, refl)
digits_all (b ∷ t) p = digits_of_lem (is_digit b) (is_blank b) b t refl refl p (digits_all t)

-- where they are not, something behind the run of digits is no number
other_of : (k : ℕ) (e f : Bool) (b : ℕ) (t : List ℕ) → is_digit b ≡ e → is_blank b ≡ f → every is_digit (cond (not f) (b ∷ front inked t) []) ≡ false →
    (every is_digit (front inked t) ≡ false → shape k (undigit t) ≡ false) → shape k (cond e (undigit t) (b ∷ t)) ≡ false
unfolding every
other_of k true true b t d g p h = absurd (false≢true (sym p))
other_of k true false b t d g p h = h (ap (λ (x : Bool). x && every is_digit (front inked t)) (sym d) ∙ p)
other_of k false true b t d g p h = absurd (false≢true (sym p))
other_of k false false b t d g p h = shape_other k b t g d

digits_not : (k : ℕ) (t : List ℕ) → every is_digit (front inked t) ≡ false → shape k (undigit t) ≡ false
unfolding front past every
digits_not k [] p = absurd (false≢true (sym p))
digits_not k (b ∷ t) p = other_of k (is_digit b) (is_blank b) b t refl refl p (digits_not k t)

-- ---- a line of k numbers
-- the first field's digits, then k numbers more
numbers_more : (k : ℕ) (f : List ℕ) (fs : List (List ℕ)) → are_numbers (suc k) (f ∷ fs) ≡ (every is_digit f && are_numbers k fs)
unfolding are_numbers every
numbers_more k f fs =
    ap (λ (e : Bool). e && (every is_digit f && every (every is_digit) fs)) (suc_both (length fs) k)
    ∙ swap (eqb (length fs) k) (every is_digit f) (every (every is_digit) fs)
  where
    suc_both : (a b : ℕ) → eqb (suc a) (suc b) ≡ eqb a b
    suc_both a b =
        same_truth _ _ (λ e. eq-eqb a b (omega (arith, eqb-true (suc a) (suc b) e))) (λ e. eq-eqb (suc a) (suc b) (omega (arith, eqb-true a b e)))

    swap : (a b c : Bool) → (a && (b && c)) ≡ (b && (a && c))
    swap true b c = refl
    swap false true c = refl
    swap false false c = refl

module _ (k : ℕ) (b : ℕ) (t : List ℕ) (ink : is_blank b ≡ false) where
  first_of : (e f : Bool) → is_digit b ≡ e → every is_digit (front inked t) ≡ f → shape k (undigit t) ≡ cond f (are_numbers k (fields (past inked t))) false →
      (not (empty (cond e (b ∷ digits_of t) [])) && shape k (cond e (undigit t) (b ∷ t))) ≡ ((e && f) && are_numbers k (fields (past inked t)))
  first_of true true d g h = h
  first_of true false d g h = h
  first_of false f d g h = refl

  behind : (f : Bool) → every is_digit (front inked t) ≡ f → ((u : List ℕ) → shape k u ≡ are_numbers k (fields u))
      → shape k (undigit t) ≡ cond f (are_numbers k (fields (past inked t))) false
  behind true g h = h (undigit t) ∙ ap (λ (u : List ℕ). are_numbers k (fields u)) (digits_all t g).1
  behind false g h = digits_not k t g

  first_field : ((u : List ℕ) → shape k u ≡ are_numbers k (fields u))
      → (not (empty (digits_of (b ∷ t))) && shape k (undigit (b ∷ t))) ≡ are_numbers (suc k) (fields (b ∷ t))
  unfolding front past every
  first_field h =
      first_of (is_digit b) (every is_digit (front inked t)) refl refl (behind (every is_digit (front inked t)) refl h)
      ∙ sym (ap (are_numbers (suc k)) (fields_word b t ink) ∙ numbers_more k (b ∷ front inked t) (fields (past inked t)))

  shape_first : ((u : List ℕ) → shape k u ≡ are_numbers k (fields u)) → shape (suc k) (b ∷ t) ≡ are_numbers (suc k) (fields (b ∷ t))
  unfolding shape
  shape_first h = ap (λ (u : List ℕ). not (empty (digits_of u)) && shape k (undigit u)) (past_stop is_blank b t ink) ∙ first_field h

numbers_none : (fs : List (List ℕ)) → are_numbers 0 fs ≡ empty fs
unfolding are_numbers every
numbers_none [] = refl
numbers_none (f ∷ fs) = ap (λ (e : Bool). e && (every is_digit f && every (every is_digit) fs)) (ne_eqb (suc (length fs)) 0 (λ e. omega (arith, e)))

shape-unblank : (k : ℕ) (t : List ℕ) → shape k (unblank t) ≡ shape k t
unfolding shape
shape-unblank zero t = ap empty (past_twice is_blank t)
shape-unblank (suc k) t = ap (λ (u : List ℕ). not (empty (digits_of u)) && shape k (undigit u)) (past_twice is_blank t)

shape_of : (k : ℕ) → ((u : List ℕ) → shape k u ≡ are_numbers k (fields u)) → (u : List ℕ) → ((b : ℕ) (r : List ℕ) → u ≡ b ∷ r → is_blank b ≡ false)
    → shape (suc k) u ≡ are_numbers (suc k) (fields u)
unfolding shape past front are_numbers
shape_of k h [] q =
    sym
    (ap (λ (fs : List (List ℕ)). eqb (length fs) (suc k) && every (every is_digit) fs) fields_none
    ∙ ap (λ (e : Bool). e && every (every is_digit) []) (ne_eqb 0 (suc k) (λ e. omega (arith, e))))
shape_of k h (b ∷ t) q = shape_first k b t (q b t refl) h

-- k numbers, one after the other and no more, are a line of k fields of digits
pub shape-fields : (k : ℕ) (t : List ℕ) → shape k t ≡ are_numbers k (fields t)
unfolding shape
shape-fields zero t = sym (numbers_none (fields t) ∙ fields-empty t)
shape-fields (suc k) t =
    sym (shape-unblank (suc k) t) ∙ shape_of k (shape-fields k) (unblank t) (past_head is_blank t) ∙ ap (are_numbers (suc k)) (fields-unblank t)

-- and then the numbers are those of the fields
module _ (b : ℕ) (t : List ℕ) (ink : is_blank b ≡ false) where
  digits_there : (k : ℕ) → shape (suc k) (b ∷ t) ≡ true → every is_digit (b ∷ front inked t) ≡ true
  digits_there k h =
      and_left (every is_digit (b ∷ front inked t)) (are_numbers k (fields (past inked t)))
      (sym (numbers_more k (b ∷ front inked t) (fields (past inked t)))
      ∙ sym (ap (are_numbers (suc k)) (fields_word b t ink)) ∙ sym (shape-fields (suc k) (b ∷ t)) ∙ h)

  run : every is_digit (b ∷ front inked t) ≡ true → (digits_of (b ∷ t) ≡ b ∷ front inked t) × (undigit (b ∷ t) ≡ past inked t)
  unfolding front past every
  run h =
      let d : is_digit b ≡ true = and_left (is_digit b) _ h in
      let r = digits_all t (and_right (is_digit b) _ h) in
      (rw d (ap (λ (u : List ℕ). b ∷ u) r.0), rw d r.1)

  first_number : (k : ℕ) → shape (suc k) (b ∷ t) ≡ true → nth_number 0 (b ∷ t) ≡ number 0 (fields (b ∷ t))
  unfolding nth_number
  first_number k h =
      ap (λ (u : List ℕ). numeral 0 (digits_of u)) (past_stop is_blank b t ink)
      ∙ ap (numeral 0) (run (digits_there k h)).0 ∙ sym (ap (number 0) (fields_word b t ink))

  later_shape : (k : ℕ) → shape (suc k) (b ∷ t) ≡ true → shape k (past inked t) ≡ true
  unfolding shape
  later_shape k h =
      ap (shape k) (sym (run (digits_there k h)).1 ∙ sym (ap undigit (past_stop is_blank b t ink)))
      ∙ and_right (field_there (b ∷ t)) (shape k (unfield (b ∷ t))) h

  later_number : (k i : ℕ) → shape (suc k) (b ∷ t) ≡ true → nth_number i (past inked t) ≡ number i (fields (past inked t))
      → nth_number (suc i) (b ∷ t) ≡ number (suc i) (fields (b ∷ t))
  unfolding nth_number
  later_number k i h e =
      ap (λ (u : List ℕ). nth_number i (undigit u)) (past_stop is_blank b t ink)
      ∙ ap (nth_number i) (run (digits_there k h)).1 ∙ e ∙ sym (ap (number (suc i)) (fields_word b t ink))

number-unblank : (i : ℕ) (t : List ℕ) → nth_number i (unblank t) ≡ nth_number i t
unfolding nth_number
number-unblank zero t = ap (λ (u : List ℕ). numeral 0 (digits_of u)) (past_twice is_blank t)
number-unblank (suc i) t = ap (λ (u : List ℕ). nth_number i (undigit u)) (past_twice is_blank t)

no-shape : (k : ℕ) → shape (suc k) [] ≡ true → ⊥
unfolding shape past front
no-shape k h = false≢true h

-- from a line to the same without the blanks in front
number-through : (k i : ℕ) (t : List ℕ) → shape (suc k) t ≡ true
    → (shape (suc k) (unblank t) ≡ true → nth_number i (unblank t) ≡ number i (fields (unblank t)))
    → nth_number i t ≡ number i (fields t)
number-through k i t h f = sym (number-unblank i t) ∙ f (shape-unblank (suc k) t ∙ h) ∙ ap (number i) (fields-unblank t)

first_inked : (k : ℕ) (u : List ℕ) → ((b : ℕ) (r : List ℕ) → u ≡ b ∷ r → is_blank b ≡ false) → shape (suc k) u ≡ true → nth_number 0 u ≡ number 0 (fields u)
first_inked k [] q h = absurd (no-shape k h)
first_inked k (b ∷ t) q h = first_number b t (q b t refl) k h

later_inked : (k i : ℕ) (u : List ℕ) → ((b : ℕ) (r : List ℕ) → u ≡ b ∷ r → is_blank b ≡ false) → shape (suc k) u ≡ true →
    ((v : List ℕ) → shape k v ≡ true → nth_number i v ≡ number i (fields v)) → nth_number (suc i) u ≡ number (suc i) (fields u)
later_inked k i [] q h f = absurd (no-shape k h)
later_inked k i (b ∷ t) q h f = later_number b t (q b t refl) k i h (f (past inked t) (later_shape b t (q b t refl) k h))

pub number-fields : (i k : ℕ) → i ≤ k → (t : List ℕ) → shape (suc k) t ≡ true → nth_number i t ≡ number i (fields t)
number-fields zero k l t h = number-through k 0 t h (first_inked k (unblank t) (past_head is_blank t))
number-fields (suc i) zero l t h = absurd (omega (arith, l))
number-fields (suc i) (suc k) l t h =
    number-through (suc k) (suc i) t h
    (λ (s : shape (suc (suc k)) (unblank t) ≡ true). later_inked (suc k) i (unblank t) (past_head is_blank t) s (number-fields i k (omega (arith, l))))
