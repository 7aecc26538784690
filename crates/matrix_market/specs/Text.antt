-- Text as a list of bytes: its lines, the fields of a line, and decimal numbers.
-- Assumes nothing.
use Rattle.std.specs.Prelude.{ℕ, ◌+◌, ◌-◌, ◌*◌, Bool, cond, not, ◌&&◌, ◌||◌, eqb, leb}
use Rattle.std.proofs.Math.Bool.{true, false}
use mathlib.Core.List.{List, [], ◌∷◌, ◌++◌}
use Rattle.lists.specs.Every.{every}

-- b in front of the first part
unfoldable pub on_first : ℕ → List (List ℕ) → List (List ℕ)
on_first b [] = (b ∷ []) ∷ []
on_first b (l ∷ ls) = (b ∷ l) ∷ ls

-- the parts of a text that end in a byte of one kind, each without its end; the last perhaps has none
unfoldable pub split : (ℕ → Bool) → List ℕ → List (List ℕ)
split ends [] = []
split ends (b ∷ t) = cond (ends b) ([] ∷ split ends t) (on_first b (split ends t))

-- LF ends a line
abbrev pub line_end : ℕ → Bool
line_end b = eqb b 10

abbrev pub lines : List ℕ → List (List ℕ)
lines = split line_end

abbrev pub empty : {A : Type 0} → List A → Bool
empty [] = true
empty (x ∷ l) = false

-- the lists that are not empty
unfoldable pub nonempty : {A : Type 0} → List (List A) → List (List A)
nonempty [] = []
nonempty ([] ∷ ls) = nonempty ls
nonempty ((x ∷ l) ∷ ls) = (x ∷ l) ∷ nonempty ls

-- a space or a tab
unfoldable pub is_blank : ℕ → Bool
is_blank b = eqb b 32 || eqb b 9

-- the fields of a line, which blanks part
abbrev pub fields : List ℕ → List (List ℕ)
fields line = nonempty (split is_blank line)

-- a decimal digit
unfoldable pub is_digit : ℕ → Bool
is_digit b = leb 48 b && leb b 57

-- the number written as that of x and then these digits, however many
unfoldable pub numeral : ℕ → List ℕ → ℕ
numeral x [] = x
numeral x (d ∷ ds) = numeral (x * 10 + (d - 48)) ds

-- ---- laws: parts put together are read back
-- each part, then this byte
unfoldable pub joined : ℕ → List (List ℕ) → List ℕ
joined e [] = []
joined e (l ∷ ls) = l ++ (e ∷ joined e ls)

-- no byte of the list is an end
abbrev pub solid : (ℕ → Bool) → List ℕ → Bool
solid ends = every (λ b. not (ends b))

-- ---- laws of fields
-- not empty
abbrev pub filled_one : {A : Type 0} → List A → Bool
filled_one f = not (empty f)
