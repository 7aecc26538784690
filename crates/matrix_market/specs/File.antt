-- A Matrix Market file of requests: its header, size line and entry lines, what is refused of it, and its requests.
-- Assumes nothing.
use Rattle.std.specs.Prelude.{ℕ, ◌-◌, Bool, true, false, cond, not, ◌&&◌, ◌||◌, List, [], ◌∷◌, ◌++◌, map, eqb, ltb, length, get_or}
use Rattle.lists.specs.Every.{every, some}
use Rattle.lists.specs.Tabulate.{tabulate}
use Rattle.refusal.specs.Bounds.{max_dimension, max_entries}
use Rattle.refusal.specs.Steps.{Step}
use Rattle.matrix_market.specs.Text.{lines, fields, empty, nonempty, is_digit, numeral}

-- ---- the parts of the file
-- "%%MatrixMarket matrix coordinate pattern symmetric"
abbrev pub header : List ℕ
header =
    37 ∷ 37 ∷ 77 ∷ 97 ∷ 116 ∷ 114 ∷ 105 ∷ 120 ∷ 77 ∷ 97 ∷ 114 ∷ 107 ∷ 101 ∷ 116 ∷
    32 ∷ 109 ∷ 97 ∷ 116 ∷ 114 ∷ 105 ∷ 120 ∷ 32 ∷ 99 ∷ 111 ∷ 111 ∷ 114 ∷ 100 ∷ 105 ∷ 110 ∷ 97 ∷ 116 ∷ 101 ∷
    32 ∷ 112 ∷ 97 ∷ 116 ∷ 116 ∷ 101 ∷ 114 ∷ 110 ∷ 32 ∷ 115 ∷ 121 ∷ 109 ∷ 109 ∷ 101 ∷ 116 ∷ 114 ∷ 105 ∷ 99 ∷ []

-- the first line, an empty one where there is none; and the lines behind it
unfoldable pub first_line : List (List ℕ) → List ℕ
first_line [] = []
first_line (l ∷ ls) = l

unfoldable pub later_lines : List (List ℕ) → List (List ℕ)
later_lines [] = []
later_lines (l ∷ ls) = ls

-- % is the first byte
unfoldable pub comment : List ℕ → Bool
comment [] = false
comment (b ∷ l) = eqb b 37

-- a comment, or a line without fields
abbrev pub skipped : List ℕ → Bool
skipped l = comment l || empty (fields l)

-- the lines from the first on that is not skipped
unfoldable pub from_size : List (List ℕ) → List (List ℕ)
from_size [] = []
from_size (l ∷ ls) = cond (skipped l) (from_size ls) (l ∷ ls)

-- the size line and what is behind it
unfoldable pub body : List ℕ → List (List ℕ)
body text = from_size (later_lines (lines text))

-- the fields of the size line
unfoldable pub size_fields : List ℕ → List (List ℕ)
size_fields text = fields (first_line (body text))

-- the fields of each of these lines that has some
abbrev pub line_entries : List (List ℕ) → List (List (List ℕ))
line_entries ls = nonempty (map fields ls)

-- the entries: those of the lines behind the size line
unfoldable pub entries : List ℕ → List (List (List ℕ))
entries text = line_entries (later_lines (body text))

-- ---- numbers of a line
-- k fields, each of digits alone
unfoldable pub are_numbers : ℕ → List (List ℕ) → Bool
are_numbers k fs = eqb (length fs) k && every (every is_digit) fs

-- the number of field i
abbrev pub number : ℕ → List (List ℕ) → ℕ
number i fs = numeral 0 (get_or fs i [])

-- ---- what the file says
-- the dimension
abbrev pub dimension_of : List ℕ → ℕ
dimension_of text = number 0 (size_fields text)

-- an entry's pair: its indices count from 1
abbrev pub pair_of : List (List ℕ) → ℕ × ℕ
pair_of entry = (number 0 entry - 1, number 1 entry - 1)

-- the diagonal pairs of n columns, ascending
abbrev pub diagonal_pair : ℕ → ℕ × ℕ
diagonal_pair c = (c, c)

abbrev pub every_diagonal : ℕ → List (ℕ × ℕ)
every_diagonal n = tabulate diagonal_pair n

-- the requests that the entries of a file of this dimension stand for: their pairs, in file order; no entries stand for every diagonal pair
abbrev pub stand_for : ℕ → List (List (List ℕ)) → List (ℕ × ℕ)
stand_for n [] = every_diagonal n
stand_for n (e ∷ es) = map pair_of (e ∷ es)

abbrev pub file_requests : List ℕ → List (ℕ × ℕ)
file_requests text = stand_for (dimension_of text) (entries text)

-- the rows of requests, and their columns
abbrev pub request_rows : List (ℕ × ℕ) → List ℕ
request_rows = map (λ (r : ℕ × ℕ). r.0)

abbrev pub request_columns : List (ℕ × ℕ) → List ℕ
request_columns = map (λ (r : ℕ × ℕ). r.1)

-- ---- what is refused
-- two lists of bytes are equal
unfoldable pub same_bytes : List ℕ → List ℕ → Bool
same_bytes [] [] = true
same_bytes [] (b ∷ t) = false
same_bytes (a ∷ s) [] = false
same_bytes (a ∷ s) (b ∷ t) = eqb a b && same_bytes s t

-- 16 of a size line: not three numbers, a size too large, unequal sizes, a count too large
unfoldable pub file_size_steps : List (List ℕ) → List Step
file_size_steps size =
    (16, not (are_numbers 3 size))
    ∷ (16, ltb max_dimension (number 0 size))
    ∷ (16, not (eqb (number 0 size) (number 1 size)))
    ∷ (16, ltb max_entries (number 2 size))
    ∷ []

-- an index that is 0 or above n
abbrev pub outside_index : ℕ → ℕ → Bool
outside_index n i = eqb i 0 || ltb n i

-- an index outside, or a pair above the diagonal
unfoldable pub outside_pair : ℕ → ℕ → ℕ → Bool
outside_pair n row column = outside_index n row || (outside_index n column || ltb row column)

abbrev pub outside_entry : ℕ → List (List ℕ) → Bool
outside_entry n entry = outside_pair n (number 0 entry) (number 1 entry)

-- an entry line that is not two numbers
abbrev pub malformed : List (List ℕ) → Bool
malformed entry = not (are_numbers 2 entry)

-- 16: an entry line not of this form, or another number of them than the count; 17: an index outside or above the diagonal
unfoldable pub file_entry_steps : ℕ → ℕ → List (List (List ℕ)) → List Step
file_entry_steps n count es =
    (16, some malformed es)
    ∷ (16, not (eqb (length es) count))
    ∷ (17, some (outside_entry n) es)
    ∷ []

-- 7: a list shorter than the requests
abbrev pub file_room_steps : ℕ → ℕ → ℕ → List Step
file_room_steps requests rows columns = (7, ltb rows requests) ∷ (7, ltb columns requests) ∷ []

-- 15, 16, 17, 7 in their order, for lists of these lengths
unfoldable pub file_steps : List ℕ → ℕ → ℕ → List Step
file_steps text rows columns =
    (15, not (same_bytes (first_line (lines text)) header))
    ∷ (file_size_steps (size_fields text)
    ++ (file_entry_steps (dimension_of text) (number 2 (size_fields text)) (entries text) ++ file_room_steps (length (file_requests text)) rows columns))

-- ---- the answer, and what the two lists hold
-- the dimension and the number of requests
abbrev pub file_answer : List ℕ → ℕ × ℕ
file_answer text = (dimension_of text, length (file_requests text))

abbrev pub file_rows : List ℕ → List ℕ
file_rows text = request_rows (file_requests text)

abbrev pub file_columns : List ℕ → List ℕ
file_columns text = request_columns (file_requests text)

-- how many requests so many entries stand for
abbrev pub request_count : ℕ → ℕ → ℕ
request_count n entries = cond (eqb entries 0) n entries
