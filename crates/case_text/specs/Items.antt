-- The items of a list in a text of cases: numbers with blanks between them, the first of them their count.
-- Assumes nothing.
use Rattle.std.specs.Prelude.{ℕ, zero, suc, min, ◌≡◌, List, length, ℤ, Float, Bool, cond}
use Rattle.std.specs.Float.{binary64}
use Rattle.std.specs.Float.Ieee.{of_bits}
use Rattle.lists.specs.Overwrite.{filled}
use Rattle.case_text.specs.Text.{past_blanks, past_word, number_at, whole_number_at}

-- the place after k items from p on
unfoldable pub past_items : List ℕ → ℕ → ℕ → ℕ
past_items text p zero = p
past_items text p (suc k) = past_word text (past_blanks text (past_items text p k))

-- the item that k others stand before, where `here` reads the one that starts at a place
abbrev pub placed : {A : Type 0} → (List ℕ → ℕ → A) → List ℕ → ℕ → ℕ → A
placed here text p k = here text (past_blanks text (past_items text p k))

-- the count at p, and the place after it
abbrev pub count_at : List ℕ → ℕ → ℕ
count_at text p = number_at 10 text (past_blanks text p)

abbrev pub past_count : List ℕ → ℕ → ℕ
past_count text p = past_word text (past_blanks text p)

-- what starts at p as a word, as a byte in a base, as a value, and as a whole number
abbrev pub word_here : List ℕ → ℕ → ℕ
word_here text p = min (number_at 10 text p) 4294967295

abbrev pub byte_here : ℕ → List ℕ → ℕ → ℕ
byte_here base text p = min (number_at base text p) 255

abbrev pub float_here : List ℕ → ℕ → Float
float_here text p = of_bits binary64 (number_at 16 text p)

abbrev pub whole_here : List ℕ → ℕ → ℤ
whole_here text p = whole_number_at text p

-- the item as each of them
abbrev pub word_at : List ℕ → ℕ → ℕ → ℕ
word_at = placed word_here

abbrev pub byte_at : Bool → List ℕ → ℕ → ℕ → ℕ
byte_at hex = placed (byte_here (cond hex 16 10))

abbrev pub float_at : List ℕ → ℕ → ℕ → Float
float_at = placed float_here

abbrev pub whole_at : List ℕ → ℕ → ℕ → ℤ
whole_at = placed whole_here

-- what reading a list at p gives: the items that the list has room for are put to its front
pub record Listing {A : Type 0} (item : List ℕ → ℕ → ℕ → A) (text : List ℕ) (p : ℕ) (old : List A) (count : ℕ) (new : List A) : Type 0 where
  pub counted : count ≡ min (count_at text p) (length old)
  pub put : new ≡ filled (item text (past_count text p)) count old
