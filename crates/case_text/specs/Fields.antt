-- A field of a case: a label, which starts with the line end before it, then a number or a counted list.
-- Assumes nothing.
use Rattle.std.specs.Prelude.{ℕ, List}
use Rattle.case_text.specs.Text.{past_blanks, number_at, past_first}

-- the place after the label; the text's end where the case lacks the field: there the number is 0 and the list has no item
abbrev pub field_at : List ℕ → List ℕ → ℕ
field_at text label = past_first text 0 label

-- the number after the label
abbrev pub number_field : List ℕ → List ℕ → ℕ
number_field text label = number_at 10 text (past_blanks text (field_at text label))
