-- Laws of specs/Examples.antt.
use Rattle.std.specs.Prelude.{ℕ, ◌+◌, ◌<◌, ◌≡◌, refl, Bool, false, cond, ◌&&◌, ◌||◌, List, [], ◌∷◌, ◌++◌, map, eqb, replicate}
use Rattle.std.proofs.Common.{arith}
use Prim.Native.String.{String, ◌∷◌ as ◌then◌}
use Rattle.lists.specs.Every.{every}
use Rattle.lists.specs.Sum.{sum_to}
use Rattle.lists.specs.Select.{select, picked}
use Rattle.lists.specs.Cells.{cells, cell_count}
use Rattle.refusal.specs.Steps.{refused, answered, first, verdict, Passed}
use Rattle.matrix_market.specs.Text.{joined, on_first, split, fields, is_blank, nonempty, is_digit, numeral}
use Rattle.matrix_market.specs.File.{header, comment, entries, are_numbers}
use Rattle.matrix_market.specs.File.{file_requests, file_rows, file_columns, file_size_steps, file_steps, file_answer}
use Rattle.matrix_market.specs.Decimal.{digits_within, decimal}
use Rattle.matrix_market.proofs.Decimal.{decimal_leads}
use Rattle.matrix_market.specs.FileOf.{spaced, file_of}
use Rattle.matrix_market.specs.Examples.{bytes, headed, number_of, told, sample}

size_told : List ℕ → ℕ
unfolding first file_size_steps every are_numbers nonempty split on_first is_blank numeral is_digit
size_told line = number_of (verdict (file_size_steps (fields line)))

-- rows of a name and a text: the names of those of whose text another number than k is told
wrong : (List ℕ → ℕ) → ℕ → List (String × List ℕ) → List String
wrong tell k [] = []
wrong tell k (e ∷ rest) = cond (eqb (tell e.1) k) (wrong tell k rest) (e.0 ∷ wrong tell k rest)

-- ---- 15: the header
header_is : header ≡ bytes "%%MatrixMarket matrix coordinate pattern symmetric"
unfolding bytes
header_is = refl

header_refused :
    wrong told 15
    (("no line", [])
    ∷ ("another header", bytes "%%MatrixMarket matrix coordinate pattern general\n1 1 0\n")
    ∷ ("an empty line first", bytes "\n%%MatrixMarket matrix coordinate pattern symmetric\n1 1 0\n")
    ∷ ("a space behind the header", headed " \n1 1 0\n")
    ∷ ("a carriage return behind the header", headed "\r\n1 1 0\n")
    ∷ ("another header, then a size line of two numbers", bytes "%\n2 2\n")
    ∷ []) ≡ []
unfolding wrong told headed bytes
header_refused = refl

-- ---- 16: the size line
size_refused :
    wrong told 16
    (("the header alone, without its line end", headed "")
    ∷ ("comments and blank lines alone", headed "\n%c\n \t\n")
    ∷ ("two numbers", headed "\n2 2\n")
    ∷ ("four numbers", headed "\n2 2 0 0\n")
    ∷ ("unequal sizes", headed "\n2 3 0\n")
    ∷ ("a space before the % of a comment", headed "\n %c\n2 2 0\n")
    ∷ ("a carriage return is no blank", headed "\n2 2 0\r\n")
    ∷ ("nor is a vertical tab", headed "\n2 2\u{b}0\n")
    ∷ ("nor a form feed", headed "\n2 2\u{c}0\n")
    ∷ ("nor byte 160", headed "\n2 2\u{a0}0\n")
    ∷ []) ≡ []
unfolding wrong told headed bytes
size_refused = refl

-- its bounds, themselves accepted
bounds-refused : wrong size_told 16 (("a size of 4,097", bytes "4097 4097 0") ∷ ("a count of 1,048,577", bytes "2 2 1048577") ∷ []) ≡ []
unfolding wrong size_told bytes
bounds-refused = refl

bounds_accepted : wrong size_told 0 (("4,096 and 1,048,576", bytes "4096 4096 1048576") ∷ []) ≡ []
unfolding wrong size_told bytes
bounds_accepted = refl

-- ---- 16: the entry lines, each looked at before any index
entries_refused :
    wrong told 16
    (("one entry of two is missing", headed "\n2 2 2\n1 1\n")
    ∷ ("two entries for one", headed "\n2 2 1\n1 1\n2 2\n")
    ∷ ("an entry for none", headed "\n2 2 0\n1 1\n")
    ∷ ("a line behind the last entry", headed "\n2 2 1\n1 1\nx\n")
    ∷ ("a count of 2^64 + 1 for one", headed "\n2 2 18446744073709551617\n1 1\n")
    ∷ ("one number", headed "\n2 2 1\n1\n")
    ∷ ("three numbers", headed "\n2 2 1\n1 1 1\n")
    ∷ ("an entry over two lines", headed "\n2 2 1\n1\n1\n")
    ∷ ("a comment behind the size line", headed "\n2 2 1\n%c\n1 1\n")
    ∷ ("the byte before 0 is no digit", headed "\n2 2 1\n1 /1\n")
    ∷ ("nor is the byte behind 9", headed "\n2 2 1\n1 :\n")
    ∷ ("a sign", headed "\n2 2 1\n+1 1\n")
    ∷ ("a point", headed "\n2 2 1\n1.0 1\n")
    ∷ ("an index outside, then a line of no numbers", headed "\n2 2 2\n3 1\nx\n")
    ∷ ("an index outside, then an entry missing", headed "\n2 2 2\n3 1\n")
    ∷ []) ≡ []
unfolding wrong told headed bytes
entries_refused = refl

-- ---- 17: an index outside, or a pair above the diagonal
indices_refused :
    wrong told 17
    (("row 0", headed "\n2 2 1\n0 0\n")
    ∷ ("column 0", headed "\n2 2 1\n1 0\n")
    ∷ ("row 3 of 2", headed "\n2 2 1\n3 1\n")
    ∷ ("both 3 of 2", headed "\n2 2 1\n3 3\n")
    ∷ ("2^32 + 1 is not 1", headed "\n2 2 1\n4294967297 1\n")
    ∷ ("2^64 + 1 is not 1", headed "\n2 2 1\n18446744073709551617 1\n")
    ∷ ("row 1, column 2", headed "\n2 2 1\n1 2\n")
    ∷ ("the first entry of two", headed "\n2 2 2\n1 2\n1 1\n")
    ∷ ("the second entry of two", headed "\n2 2 2\n1 1\n1 2\n")
    ∷ ("the fifth entry, for which there is no place", headed "\n2 2 5\n1 1\n2 1\n2 2\n1 1\n1 2\n")
    ∷ ("an entry of size 0", headed "\n0 0 1\n1 1\n")
    ∷ []) ≡ []
unfolding wrong told headed bytes
indices_refused = refl

-- ---- 7: a list too short
room_refused :
    wrong told 7
    (("five entries for four places", headed "\n2 2 5\n1 1\n2 1\n2 2\n1 1\n1 1\n")
    ∷ ("no entries of five columns: five diagonal pairs", headed "\n5 5 0\n")
    ∷ []) ≡ []
unfolding wrong told headed bytes
room_refused = refl

-- ---- files that are accepted
accepted_files :
    wrong told 0
    (("size 0", headed "\n0 0 0\n")
    ∷ ("no line end behind the last line", headed "\n2 2 1\n2 1")
    ∷ ("leading zeros", headed "\n02 2 001\n002 01\n")
    ∷ ("tabs and spaces between and around numbers", headed "\n\t2 \t2  1 \n \t2\t1\t\n")
    ∷ ("blank lines before and behind each line", headed "\n\n%c\n \n%d\n\t\n2 2 1\n\n1 1\n \n")
    ∷ ("any byte in a comment", headed "\n%%\r\u{b}\0 2 2\n2 2 0\n")
    ∷ ("no entries of four columns", headed "\n4 4 0\n")
    ∷ ("as many requests as places", headed "\n2 2 4\n1 1\n2 1\n2 2\n2 2\n")
    ∷ []) ≡ []
unfolding wrong told headed bytes
accepted_files = refl

-- ---- numbers of 400 digits: a size, an index, an index 0, and one with zeros before it
long_size : told (header ++ (10 ∷ replicate 400 49 ++ (32 ∷ replicate 400 49 ++ bytes " 0\n"))) ≡ 16
unfolding told bytes
long_size = refl

long_index : told (headed "\n2 2 1\n" ++ (replicate 400 49 ++ bytes " 1\n")) ≡ 17
unfolding told headed
long_index = refl

long_zero : told (headed "\n2 2 1\n1 " ++ replicate 400 48) ≡ 17
unfolding told headed
long_zero = refl

long_zeros : told (headed "\n2 2 1\n" ++ (replicate 400 48 ++ bytes "2 1\n")) ≡ 0
unfolding told headed
long_zeros = refl

sample_requests : file_requests sample ≡ (0, 0) ∷ (2, 1) ∷ (1, 1) ∷ (2, 1) ∷ []
unfolding told sample
sample_requests = refl

sample_rows : file_rows sample ≡ 0 ∷ 2 ∷ 1 ∷ 2 ∷ []
unfolding told sample
sample_rows = refl

sample_columns : file_columns sample ≡ 0 ∷ 1 ∷ 1 ∷ 1 ∷ []
unfolding told sample
sample_columns = refl

pub sample_passes : Passed (file_steps sample 4 5)
unfolding told sample
sample_passes = refl

sample_read : first (file_steps sample 4 5) (file_answer sample) ≡ answered (3, 4)
unfolding told sample
sample_read = refl

rows_short : first (file_steps sample 3 4) (file_answer sample) ≡ refused 7
unfolding told sample
rows_short = refl

columns_short : first (file_steps sample 4 3) (file_answer sample) ≡ refused 7
unfolding told sample
columns_short = refl

-- ---- a file without entries: every diagonal pair, ascending; none where there are no columns
diagonals_read : file_requests (headed "\n3 3 0\n") ≡ (0, 0) ∷ (1, 1) ∷ (2, 2) ∷ []
unfolding told headed bytes
diagonals_read = refl

none_read : file_requests (headed "\n0 0 0\n") ≡ []
unfolding told headed bytes
none_read = refl

diagonals_answer : first (file_steps (headed "\n3 3 0\n") 3 3) (file_answer (headed "\n3 3 0\n")) ≡ answered (3, 3)
unfolding told headed bytes
diagonals_answer = refl

-- ---- what is written: digits, and no leading zero
digits_written : map decimal (0 ∷ 9 ∷ 10 ∷ 4096 ∷ 1048576 ∷ []) ≡ bytes "0" ∷ bytes "9" ∷ bytes "10" ∷ bytes "4096" ∷ bytes "1048576" ∷ []
unfolding decimal digits_within bytes
digits_written = refl

no_leading_zero : 48 < 52
unfolding decimal digits_within
no_leading_zero = decimal_leads 4096 (omega arith)

-- the pairs (0, 0), (2, 0), (1, 1) of three columns: column by column, not row by row
corner : ℕ → ℕ → Bool
corner r c = eqb (r + c) 2 || (eqb r 0 && eqb c 0)

corner-written : file_of 3 corner ≡ headed "\n3 3 3\n1 1\n3 1\n2 2\n"
unfolding file_of joined spaced decimal digits_within cells cell_count sum_to select picked corner headed bytes
corner-written = refl

-- the last pair of ten columns
last_written : file_of 10 (λ r c. eqb r 9 && eqb c 9) ≡ headed "\n10 10 1\n10 10\n"
unfolding file_of joined spaced decimal digits_within cells cell_count sum_to select picked headed bytes
last_written = refl

-- no columns
none_written : file_of 0 (λ _ _. false) ≡ headed "\n0 0 0\n"
unfolding file_of joined spaced decimal digits_within cells cell_count sum_to select picked headed bytes
none_written = refl
