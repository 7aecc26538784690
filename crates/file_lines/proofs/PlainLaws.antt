-- A line of two short numbers, one space between them and a line end right behind.
-- Assumes nothing.
use Prim.Native.Nat.{ℕ, ◌+◌, ◌-◌, ◌*◌, ◌≤◌, ◌<◌}
use native.Mathlib.Omega.{arith}
use mathlib.Core.Path.{◌≡◌, refl, sym, ap, subst, ◌∙◌}
use mathlib.Core.Bool.{Bool, true, false, not, false≢true}
use mathlib.Core.List.{List, []}
use mathlib.Core.Logic.{◌⊎◌, inl, inr}
use lib.ListN.{length, get_or, drop}
use borrow.Author.Tests.{lt-ltb}
use Rattle.matrix_market.specs.Text.{empty, is_blank, is_digit}
use Rattle.file_lines.specs.Scan.{digits_of, cut}
use Rattle.file_lines.specs.Places.{Skipped, NumberAt, DigitsRead, FewAt, FieldAt, PlainAt}
use Rattle.file_lines.proofs.ScanLaws.{drop_next, front_stop}
use Rattle.file_lines.proofs.FieldLaws.{digit_inked}
use Rattle.file_lines.proofs.PlaceLaws.{skip_more, skip_stop, number_start, number_more, number_stop, field_at, end_here, pair_whole}

-- ---- a few digits
module _ (text : List ℕ) (p : ℕ) where
  pub few_start : p ≤ length text → FewAt text p 0 p
  few_start h = record { read = number_start text p h; above = omega arith; most = omega arith }

  pub few_more : (value i more next : ℕ) → FewAt text p value i → i < p + 4 → i < length text → is_digit (get_or text i 0) ≡ true
      → more ≡ cut (value * 10 + (get_or text i 0 - 48)) → next ≡ i + 1 → FewAt text p more next
  few_more value i more next f m l h e n =
      record {
        read = subst (DigitsRead text p more) (sym n) (number_more text p value i f.read more l h e);
        above = omega (arith, f.above);
        most = omega arith;
      }

-- ---- the line
-- the byte is one digit: no blank, and the first of a number
digit_byte : (e : Bool) (text : List ℕ) (p : ℕ) → p < length text → is_digit (get_or text p 0) ≡ e → not (empty (digits_of (drop p text))) ≡ true
    → is_digit (get_or text p 0) ≡ true
digit_byte true text p l d h = d
digit_byte false text p l d h =
    let none : digits_of (drop p text) ≡ [] = ap digits_of (drop_next text p l) ∙ front_stop is_digit _ _ d in
    absurd (false≢true (ap (λ (r : List ℕ). not (empty r)) (sym none) ∙ h))

-- a number from p on that another byte ends
module _ (text : List ℕ) (p value next : ℕ) (few : FewAt text p value next) (more : next ≡ p → ⊥)
    (l : next < length text) (other : is_digit (get_or text next 0) ≡ false) where
  pub few_number : NumberAt text p value next
  few_number = number_stop text p value next few.read l other

  pub few_digit : is_digit (get_or text p 0) ≡ true
  few_digit =
      let above : p < next = omega (arith, few.above, more) in
      digit_byte (is_digit (get_or text p 0)) text p (omega (arith, l)) refl (few_number.there ∙ lt-ltb p next above)

not_digit : (b : ℕ) → (b ≡ 32) ⊎ (b ≡ 10) → is_digit b ≡ false
unfolding is_digit
not_digit b (inl h) = rw h
not_digit b (inr h) = rw h

module _ (text : List ℕ) (p a mid b last : ℕ) (room : p + 10 ≤ length text) (x : FewAt text p a mid) (some : mid ≡ p → ⊥) (gap : get_or text mid 0 ≡ 32)
    (y : FewAt text (mid + 1) b last) (later : last ≡ mid + 1 → ⊥) (end : get_or text last 0 ≡ 10) where
  mid_in : mid < length text
  mid_in = omega (arith, x.most)

  last_in : last < length text
  last_in = omega (arith, x.most, y.most)

  first_digit : is_digit (get_or text p 0) ≡ true
  first_digit = few_digit text p a mid x some mid_in (not_digit _ (inl gap))

  second_digit : is_digit (get_or text (mid + 1) 0) ≡ true
  second_digit = few_digit text (mid + 1) b last y later last_in (not_digit _ (inr end))

  no_blanks : Skipped is_blank text p p
  no_blanks = skip_stop is_blank text p p refl (omega arith) (omega (arith, room)) (digit_inked _ first_digit)

  one_blank : Skipped is_blank text mid (mid + 1)
  unfolding is_blank
  one_blank =
      let gap-blank : is_blank (get_or text mid 0) ≡ true = rw gap in
      let next-in : mid + 1 < length text = omega (arith, x.most, room) in
      skip_stop is_blank text mid (mid + 1) (skip_more is_blank text mid mid refl mid_in gap-blank) (omega arith) next-in (digit_inked _ second_digit)

  none_behind : Skipped is_blank text last last
  unfolding is_blank
  none_behind =
      let end-other : is_blank (get_or text last 0) ≡ false = rw end in
      skip_stop is_blank text last last refl (omega arith) last_in end-other

  first_field : FieldAt text p true a mid
  first_field = field_at text p p a mid no_blanks (few_number text p a mid x some mid_in (not_digit _ (inl gap))) some

  second_field : FieldAt text mid true b last
  second_field =
      field_at text mid (mid + 1) b last one_blank (few_number text (mid + 1) b last y later last_in (not_digit _ (inr end))) later

  pub plain_line : PlainAt text p true a b (last + 1)
  plain_line =
      record {
        inside = λ _. omega (arith, room);
        digit = λ _. first_digit;
        pair = λ _. pair_whole text p a mid first_field b last (last + 1) second_field (end_here text last last none_behind last_in end);
      }
