-- Worked calls: requests of two columns written, refused, read back, and written again.
-- Assumes nothing.
use Rattle.std.specs.Prelude.{ℕ, zero, suc, ◌≤◌, ◌<◌, ◌≡◌, refl, false, cond, List, [], ◌∷◌, ◌++◌, eqb, length, replicate, take, Ok, Err}
use Rattle.std.proofs.Common.{arith, ap₂}
use Rattle.std.proofs.lemmas.Bool.{false≢true}
use Prim.Native.String.{String}
use Rattle.lists.specs.Sum.{sum_to}
use Rattle.lists.specs.Test.{any}
use Rattle.lists.specs.Select.{select, picked}
use Rattle.lists.specs.Tabulate.{tabulate}
use Rattle.lists.specs.Overwrite.{overwrite, filled}
use Rattle.lists.specs.Cells.{cells, cell_count}
use Rattle.refusal.specs.Steps.{answered, first, after, verdict, Passed}
use Rattle.refusal.specs.declared.Refusal.TheVariants.{TooShort}
use Rattle.bits.specs.Bits.{bit_words}
use Rattle.pairs.specs.Pair.{pair_total}
use Rattle.closed_set.specs.Requests.{requested}
use Rattle.matrix_market.specs.Text.{joined}
use Rattle.matrix_market.specs.File.{dimension_of, file_rows, file_columns, file_steps, file_answer}
use Rattle.matrix_market.specs.Decimal.{decimal, digits_within}
use Rattle.matrix_market.specs.FileOf.{spaced, file_of}
use Rattle.matrix_market.specs.Examples.{bytes, headed, number_of, told}
use Rattle.requests_reader.specs.Reader.{RequestsRead}
use Rattle.requests_writer.specs.Writer.{some_upper, write_checks, write_steps, requests_file, RequestsWritten}
use Rattle.requests_writer.proofs.Answer.{answer_bytes, answer_read, answer_set, same_bytes}
use Rattle.requests_writer.specs.Canonical.{canonical}
use Rattle.requests_writer.proofs.Canonical.{read_then_written, canonical_same, canonical_itself}
use Rattle.refusal.specs.Refusal.{reply_of}

-- ---- the file of requests
unfoldable file : List ℕ
unfolding headed
file = headed "\n2 2 2\n1 1\n2 1\n"

-- the number of the refusal of a call, 0 where it answers; the scratch and the output have so many places
unfoldable write_told : ℕ → List ℕ → List ℕ → ℕ → ℕ → ℕ
unfolding first write_checks some_upper bit_words pair_total requested any file_of joined spaced decimal digits_within cells cell_count sum_to select picked
write_told n rows columns scratch output = number_of (verdict (write_steps n rows columns scratch output))

-- (1, 0), (0, 0) and (1, 0) again: each pair once, by column then row
repeats_once : requests_file 2 (1 ∷ 0 ∷ 1 ∷ []) (0 ∷ 0 ∷ 0 ∷ []) ≡ file
unfolding write_told file headed bytes
repeats_once = refl

-- ---- refusals, the lowest step deciding
-- rows of a name, a call and its number: the names of those of which another number is told
abbrev Call : Type 0
Call = ℕ × List ℕ × List ℕ × ℕ × ℕ

wrong : List (String × Call × ℕ) → List String
unfolding write_told
wrong [] = []
wrong (e ∷ rest) =
    let c = e.1 in
    cond (eqb (write_told c.0 c.1 c.2 c.3 c.4) e.2) (wrong rest) (e.0 ∷ wrong rest)

refusals :
    wrong
    (("1: 4,097 columns, before 4", (4097, 0 ∷ [], [], 0, 0), 1)
    ∷ ("4: a column more, before 5", (2, 2 ∷ [], 0 ∷ 0 ∷ [], 0, 0), 4)
    ∷ ("4: no rows and a column, before 24", (2, [], 0 ∷ [], 0, 0), 4)
    ∷ ("5: row 2 of 2, before 7", (2, 2 ∷ [], 0 ∷ [], 0, 0), 5)
    ∷ ("5: row 0, column 1, which is not exchanged", (2, 1 ∷ 0 ∷ [], 0 ∷ 1 ∷ [], 1, 99), 5)
    ∷ ("5: a request of no columns", (0, 0 ∷ [], 0 ∷ [], 0, 99), 5)
    ∷ ("24: no requests of 2 columns, before 7", (2, [], [], 0, 0), 24)
    ∷ ("7: no scratch", (2, 1 ∷ [], 0 ∷ [], 0, 99), 7)
    ∷ ("7: 32 bits for 36 pairs", (8, 1 ∷ [], 0 ∷ [], 1, 99), 7)
    ∷ ("7: 60 places for 61 bytes", (2, 1 ∷ [], 0 ∷ [], 1, 60), 7)
    ∷ ("61 places", (2, 1 ∷ [], 0 ∷ [], 1, 61), 0)
    ∷ ("no columns: no scratch", (0, [], [], 0, 57), 0)
    ∷ ("no columns: 56 places for 57 bytes", (0, [], [], 0, 56), 7)
    ∷ []) ≡ []
unfolding wrong write_told
refusals = refl

-- ---- calls
abbrev sevens : ℕ → List ℕ
sevens = λ k. replicate k 7

-- 65 bytes, and one behind them; the first word of the scratch is 0 after it, the second as it was
answered-call : RequestsWritten 2 (1 ∷ 0 ∷ 1 ∷ []) (0 ∷ 0 ∷ 0 ∷ []) (sevens 66) (5 ∷ 9 ∷ []) (Ok 65) (file ++ (7 ∷ [])) (0 ∷ 9 ∷ [])
unfolding write_told file headed bytes after overwrite filled tabulate
answered-call = record { replies = refl; output_is = refl; scratch_is = refl }

-- the same pairs in another order
other_call : RequestsWritten 2 (0 ∷ 1 ∷ []) (0 ∷ 0 ∷ []) (sevens 65) (5 ∷ []) (Ok 65) file (0 ∷ [])
unfolding write_told file headed bytes after overwrite filled tabulate
other_call = record { replies = refl; output_is = refl; scratch_is = refl }

-- an output that is too short: it is as it was, the scratch's word 0
short_output : RequestsWritten 2 (1 ∷ 0 ∷ 1 ∷ []) (0 ∷ 0 ∷ 0 ∷ []) (sevens 64) (5 ∷ 9 ∷ []) (Err TooShort) (sevens 64) (0 ∷ 9 ∷ [])
unfolding write_told after filled tabulate overwrite
short_output = record { replies = refl; output_is = refl; scratch_is = refl }

-- a scratch that is too short is as it was
short_scratch : RequestsWritten 8 (1 ∷ []) (0 ∷ []) (sevens 66) (5 ∷ []) (Err TooShort) (sevens 66) (5 ∷ [])
unfolding write_told after
short_scratch = record { replies = refl; output_is = refl; scratch_is = refl }

-- ---- the laws on them
first_bytes : take 65 (file ++ (7 ∷ [])) ≡ requests_file 2 (1 ∷ 0 ∷ 1 ∷ []) (0 ∷ 0 ∷ 0 ∷ [])
first_bytes = answer_bytes 2 (1 ∷ 0 ∷ 1 ∷ []) (0 ∷ 0 ∷ 0 ∷ []) (sevens 66) (5 ∷ 9 ∷ []) answered-call refl

one_set : (r c : ℕ) → c ≤ r → r < 2 → requested (1 ∷ 0 ∷ 1 ∷ []) (0 ∷ 0 ∷ 0 ∷ []) r c ≡ requested (0 ∷ 1 ∷ []) (0 ∷ 0 ∷ []) r c
unfolding requested any
one_set zero zero h l = refl
one_set zero (suc c) h l = absurd (omega arith)
one_set (suc zero) zero h l = refl
one_set (suc zero) (suc zero) h l = refl
one_set (suc zero) (suc (suc c)) h l = absurd (omega arith)
one_set (suc (suc r)) c h l = absurd (omega arith)

equal_bytes : take 65 (file ++ (7 ∷ [])) ≡ take 65 file
equal_bytes =
    (same_bytes 2 (1 ∷ 0 ∷ 1 ∷ []) (0 ∷ 0 ∷ 0 ∷ []) (sevens 66) (5 ∷ 9 ∷ []) (0 ∷ 1 ∷ []) (0 ∷ 0 ∷ []) (sevens 65) (5 ∷ []) answered-call other_call refl refl one_set).1

read_back : Passed (file_steps (take 65 file) 2 2) × (file_answer (take 65 file) ≡ (2, 2))
unfolding write_told
read_back = answer_read 2 (0 ∷ 1 ∷ []) (0 ∷ 0 ∷ []) (sevens 65) (5 ∷ []) other_call refl 2 2 (omega arith) (omega arith)

set_back : requested (file_rows (take 65 file)) (file_columns (take 65 file)) 1 0 ≡ requested (0 ∷ 1 ∷ []) (0 ∷ 0 ∷ []) 1 0
set_back = answer_set 2 (0 ∷ 1 ∷ []) (0 ∷ 0 ∷ []) (sevens 65) (5 ∷ []) other_call refl 1 0

-- ---- a file without entries, read and then written: the file of the diagonal cells
unfoldable whole : List ℕ
unfolding headed
whole = headed "\n%every cell\n2 2 0"

unfoldable diagonal : List ℕ
unfolding headed
diagonal = headed "\n2 2 2\n1 1\n2 2\n"

whole_read : RequestsRead whole (5 ∷ 5 ∷ 5 ∷ []) (5 ∷ 5 ∷ []) (Ok (2, 2)) (0 ∷ 1 ∷ 5 ∷ []) (0 ∷ 1 ∷ [])
unfolding told whole headed bytes after overwrite
whole_read = record { replies = refl; rows_are = refl; columns_are = refl }

whole_written : RequestsWritten 2 (0 ∷ 1 ∷ []) (0 ∷ 1 ∷ []) (sevens 65) (5 ∷ []) (Ok 65) diagonal (0 ∷ [])
unfolding write_told diagonal headed bytes after overwrite filled tabulate
whole_written = record { replies = refl; output_is = refl; scratch_is = refl }

whole_canonical : canonical whole ≡ diagonal
unfolding told write_told whole diagonal headed bytes
whole_canonical = refl

whole_again : (reply_of (Ok 65) ≡ answered (length (canonical whole))) × (take (length (canonical whole)) diagonal ≡ canonical whole)
unfolding told write_told whole diagonal headed bytes
whole_again =
    read_then_written whole (5 ∷ 5 ∷ 5 ∷ []) (5 ∷ 5 ∷ []) (0 ∷ 1 ∷ 5 ∷ []) (0 ∷ 1 ∷ []) 2 2 whole_read (sevens 65) (5 ∷ []) whole_written (omega arith) (omega arith)

-- both files have the same canonical bytes, which are those of the second
whole_rows : (file_rows whole ≡ file_rows diagonal) × (file_columns whole ≡ file_columns diagonal)
unfolding told whole diagonal headed bytes
whole_rows = (refl, refl)

whole_dimension : dimension_of whole ≡ dimension_of diagonal
unfolding told whole diagonal headed bytes
whole_dimension = refl

whole_same : canonical whole ≡ canonical diagonal
whole_same =
    canonical_same whole diagonal whole_dimension (λ r c _ _. ap₂ (λ (rows columns : List ℕ). requested rows columns r c) whole_rows.0 whole_rows.1)

none_itself : canonical (file_of 0 (λ _ _. false)) ≡ file_of 0 (λ _ _. false)
none_itself = canonical_itself 0 (λ _ _. false) (record { ordered = λ r c e. absurd (false≢true e); inside = λ r c e. absurd (false≢true e) }) (λ h. absurd (omega arith))
