-- A text read from its front: its first line, runs of bytes, and the numbers of a line one after the other.
-- Assumes nothing.
use Rattle.std.specs.Prelude.{ℕ, zero, suc, min, Bool, cond, not, List, [], ◌∷◌, eqb}
use Rattle.matrix_market.specs.Text.{empty, is_blank, is_digit, numeral}

-- the first line, and what is behind its end
unfoldable pub line_of : List ℕ → List ℕ
line_of [] = []
line_of (b ∷ t) = cond (eqb b 10) [] (b ∷ line_of t)

unfoldable pub rest_of : List ℕ → List ℕ
rest_of [] = []
rest_of (b ∷ t) = cond (eqb b 10) t (rest_of t)

-- the bytes in front that pass a test, and what is behind them
unfoldable pub front : (ℕ → Bool) → List ℕ → List ℕ
front test [] = []
front test (b ∷ t) = cond (test b) (b ∷ front test t) []

unfoldable pub past : (ℕ → Bool) → List ℕ → List ℕ
past test [] = []
past test (b ∷ t) = cond (test b) (past test t) (b ∷ t)

-- behind the blanks; the digits in front; behind those
abbrev pub unblank : List ℕ → List ℕ
unblank = past is_blank

abbrev pub digits_of : List ℕ → List ℕ
digits_of = front is_digit

abbrev pub undigit : List ℕ → List ℕ
undigit = past is_digit

-- a number stands first, and what is behind it
abbrev pub field_there : List ℕ → Bool
field_there t = not (empty (digits_of (unblank t)))

abbrev pub unfield : List ℕ → List ℕ
unfield t = undigit (unblank t)

-- the number with i others before it
unfoldable pub nth_number : ℕ → List ℕ → ℕ
nth_number zero t = numeral 0 (digits_of (unblank t))
nth_number (suc i) t = nth_number i (unfield t)

-- a number cut off at the largest word, which every bound lies below
abbrev pub cut : ℕ → ℕ
cut x = min x 4294967295
