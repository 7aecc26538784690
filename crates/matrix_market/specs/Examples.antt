-- Files, and what is told and read of them.
-- Assumes nothing.
use Rattle.std.specs.Prelude.{ℕ, ◌+◌, List, [], ◌∷◌, ◌++◌}
use Prim.Native.Char.{code}
use Prim.Native.String.{String, [] as ended, ◌∷◌ as ◌then◌}
use Rattle.lists.specs.Every.{every, some}
use Rattle.lists.specs.Tabulate.{tabulate}
use Rattle.refusal.specs.Steps.{Reply, refused, answered, first, verdict}
use Rattle.matrix_market.specs.Text.{on_first, split, is_blank, nonempty, is_digit, numeral}
use Rattle.matrix_market.specs.File.{header, same_bytes, comment, from_size, first_line, later_lines, body, size_fields, entries, are_numbers, outside_pair}
use Rattle.matrix_market.specs.File.{file_size_steps, file_entry_steps, file_steps}

-- the bytes of a text; the file that begins with the header and goes on with a text
unfoldable pub bytes : String → List ℕ
bytes ended = []
bytes (c then s) = code c ∷ bytes s

unfoldable pub headed : String → List ℕ
unfolding bytes
headed s = header ++ bytes s

-- a verdict as a number: that of the refusal, 0 where there is none
abbrev pub number_of : Reply (Unit {0}) → ℕ
number_of (refused k) = k
number_of (answered tt) = 0

-- what is told of a file where each list has 4 places, and of a size line
unfoldable pub told : List ℕ → ℕ
unfolding first file_steps file_size_steps file_entry_steps same_bytes some every are_numbers outside_pair size_fields first_line entries body later_lines from_size comment
    nonempty split on_first is_blank numeral is_digit tabulate
told text = number_of (verdict (file_steps text 4 4))

-- ---- what is read: a file with a comment, blank lines, tabs, a leading zero, a repeat and no last line end
unfoldable pub sample : List ℕ
unfolding headed
sample = headed "\n%a comment\n\n \t\n 3\t3  4 \n1 1\n\t03 2\n\n2  2\t\n3 2 "
