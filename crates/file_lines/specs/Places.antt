-- What the functions that read a text from a place on promise.
-- Assumes nothing.
use Rattle.std.specs.Prelude.{ℕ, ◌+◌, ◌≤◌, ◌<◌, ◌≡◌, Bool, true, false, not, List, ltb, length, get_or, drop}
use Rattle.matrix_market.specs.Text.{fields, empty, is_digit, numeral}
use Rattle.matrix_market.specs.File.{are_numbers, number}
use Rattle.file_lines.specs.Scan.{line_of, rest_of, past, unblank, digits_of, undigit, unfield, field_there, nth_number, cut}

-- r is the place behind the bytes from p on that pass the test
pub record Skipped (test : ℕ → Bool) (text : List ℕ) (p r : ℕ) : Type 0 where
  pub left : drop r text ≡ past test (drop p text)
  pub above : p ≤ r
  pub within : r ≤ length text

-- the digits from p on have the value, cut off, and next is the place behind them
pub record NumberAt (text : List ℕ) (p value next : ℕ) : Type 0 where
  pub is : value ≡ cut (numeral 0 (digits_of (drop p text)))
  pub left : drop next text ≡ undigit (drop p text)
  pub there : not (empty (digits_of (drop p text))) ≡ ltb p next
  pub above : p ≤ next
  pub within : next ≤ length text

-- the digits from p to i have the value, cut off, and more may follow
pub record DigitsRead (text : List ℕ) (p value i : ℕ) : Type 0 where
  pub is : cut (numeral value (digits_of (drop i text))) ≡ cut (numeral 0 (digits_of (drop p text)))
  pub small : value ≤ 4294967295
  pub left : undigit (drop i text) ≡ undigit (drop p text)
  pub counted : i + length (digits_of (drop i text)) ≡ p + length (digits_of (drop p text))
  pub within : i ≤ length text

-- the digits from p to next, at most four, have the value; more may follow
pub record FewAt (text : List ℕ) (p value next : ℕ) : Type 0 where
  pub read : DigitsRead text p value next
  pub above : p ≤ next
  pub most : next ≤ p + 4

-- a field: blanks and a number
pub record FieldAt (text : List ℕ) (p : ℕ) (there : Bool) (value next : ℕ) : Type 0 where
  pub found : there ≡ field_there (drop p text)
  pub is : value ≡ cut (nth_number 0 (line_of (drop p text)))
  pub left : drop next text ≡ unfield (drop p text)
  pub above : p ≤ next
  pub past_it : there ≡ true → p < next
  pub within : next ≤ length text

-- the fields of the first line from p on
abbrev pub fields_at : List ℕ → ℕ → List (List ℕ)
fields_at text p = fields (line_of (drop p text))

-- whether the first line from p on is k numbers, and then the place behind it
pub record LineAt (k : ℕ) (text : List ℕ) (p : ℕ) (formed : Bool) (next : ℕ) : Type 0 where
  pub shaped : formed ≡ are_numbers k (fields_at text p)
  pub left : formed ≡ true → drop next text ≡ rest_of (drop p text)
  pub past_it : formed ≡ true → p + k ≤ next
  pub within : next ≤ length text

-- whether only blanks are left of the line; then the place behind it, else that of the first other byte
pub record EndAt (text : List ℕ) (p : ℕ) (ended : Bool) (next : ℕ) : Type 0 where
  pub found : ended ≡ empty (line_of (unblank (drop p text)))
  pub left : ended ≡ true → drop next text ≡ rest_of (drop p text)
  pub stopped : ended ≡ false → drop next text ≡ unblank (drop p text)
  pub above : p ≤ next
  pub past_it : ended ≡ true → p < length text → p < next
  pub within : next ≤ length text

-- a line of two numbers
pub record PairAt (text : List ℕ) (p : ℕ) (formed : Bool) (first second next : ℕ) : Type 0 where
  pub line : LineAt 2 text p formed next
  pub first_is : formed ≡ true → first ≡ cut (number 0 (fields_at text p))
  pub second_is : formed ≡ true → second ≡ cut (number 1 (fields_at text p))

-- a line of three
pub record TripleAt (text : List ℕ) (p : ℕ) (formed : Bool) (first second third next : ℕ) : Type 0 where
  pub line : LineAt 3 text p formed next
  pub first_is : formed ≡ true → first ≡ cut (number 0 (fields_at text p))
  pub second_is : formed ≡ true → second ≡ cut (number 1 (fields_at text p))
  pub third_is : formed ≡ true → third ≡ cut (number 2 (fields_at text p))

-- whether a plain line stands at p, two short numbers with one space between them; then it is a line of two numbers, and a digit stands first
pub record PlainAt (text : List ℕ) (p : ℕ) (formed : Bool) (first second next : ℕ) : Type 0 where
  pub inside : formed ≡ true → p < length text
  pub digit : formed ≡ true → is_digit (get_or text p 0) ≡ true
  pub pair : formed ≡ true → PairAt text p true first second next
