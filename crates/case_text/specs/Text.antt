-- What stands in a text of cases from a place on: blanks, words, numbers, a label, whole numbers.
-- Assumes nothing.
use Rattle.std.specs.Prelude.{ℕ, zero, suc, ◌+◌, ◌-◌, ◌*◌, min, Bool, cond, not, ◌&&◌, List, [], ◌∷◌, ltb, leb, eqb, ℤ, pos, neg_ℤ, length, get_or}
use Rattle.lists.specs.Test.{any}

-- the first place from p on where the test fails, of k places at most
unfoldable pub past_run : (ℕ → Bool) → ℕ → ℕ → ℕ
past_run test p zero = p
past_run test p (suc k) = cond (test p) (past_run test (p + 1) k) p

-- a blank or a line end stands at p
abbrev pub blank_at : List ℕ → ℕ → Bool
blank_at text p = leb (get_or text p 0) 32

-- the first place from p on with no blank
abbrev pub past_blanks : List ℕ → ℕ → ℕ
past_blanks text p = past_run (blank_at text) p (length text - p)

-- the first place from p on with a blank
abbrev pub past_word : List ℕ → ℕ → ℕ
past_word text p = past_run (λ i. not (blank_at text i)) p (length text - p)

-- the digit that a byte is, from 0 to f; 16 for any other byte
unfoldable pub digit_of : ℕ → ℕ
digit_of b = cond (ltb b 48) 16 (cond (ltb b 58) (b - 48) (cond (ltb b 97) 16 (cond (ltb b 103) (b - 87) 16)))

-- a digit of the base stands at p
abbrev pub digit_at : ℕ → List ℕ → ℕ → Bool
digit_at base text p = ltb (digit_of (get_or text p 0)) base

-- one more digit d after x; a digit that takes the number to 2^64 or above is left out
unfoldable pub digit_more : ℕ → ℕ → ℕ → ℕ
digit_more base x d = cond (leb (x * base + d) 18446744073709551615) (x * base + d) x

-- x followed by the digits from p on, k of them at most
unfoldable pub number_from : ℕ → List ℕ → ℕ → ℕ → ℕ → ℕ
number_from base text x p zero = x
number_from base text x p (suc k) =
    cond (digit_at base text p) (number_from base text (digit_more base x (digit_of (get_or text p 0))) (p + 1) k) x

-- the number in the base whose digits start at p
abbrev pub number_at : ℕ → List ℕ → ℕ → ℕ
number_at base text p = number_from base text 0 p (length text - p)

-- another byte than the label's at i stands there, the label starting at p
abbrev pub differs : List ℕ → ℕ → List ℕ → ℕ → Bool
differs text p label i = not (eqb (get_or text (p + i) 0) (get_or label i 0))

-- the bytes of the label stand from p on
unfoldable pub begins : List ℕ → ℕ → List ℕ → Bool
begins text p label = leb (p + length label) (length text) && not (any (differs text p label) (length label))

-- the whole numbers x and -x, where they are signed 64-bit numbers; else the nearest one
abbrev pub not_below : ℕ → ℤ
not_below x = pos (min x 9223372036854775807)

abbrev pub negated : ℕ → ℤ
negated x = neg_ℤ (pos (min x 9223372036854775808))

-- the byte - stands at p
abbrev pub minus_at : List ℕ → ℕ → Bool
minus_at text p = begins text p (45 ∷ [])

-- the whole number at p: digits, with the byte - before them where it is below 0
abbrev pub whole_number_at : List ℕ → ℕ → ℤ
whole_number_at text p = cond (minus_at text p) (negated (number_at 10 text (p + 1))) (not_below (number_at 10 text p))

-- the place after the label where it stands first from p on, of k places at most
unfoldable pub first_from : List ℕ → List ℕ → ℕ → ℕ → ℕ
first_from text label p zero = p
first_from text label p (suc k) = cond (begins text p label) (p + length label) (first_from text label (p + 1) k)

-- the place after the label where it stands first from p on; the text's end where it does not
abbrev pub past_first : List ℕ → ℕ → List ℕ → ℕ
past_first text p label = first_from text label p (length text - p)
