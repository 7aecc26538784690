-- Two cases, one with a number and a list, one with a list of whole numbers, computed.
-- Assumes nothing.
use Rattle.std.specs.Prelude.{ℕ, ◌≡◌, refl, List, [], ◌∷◌, ℤ, pos, negsuc, length}
use Rattle.lists.specs.Test.{any}
use Rattle.case_text.specs.Text.{past_run, digit_of, digit_more, number_from, begins, first_from}
use Rattle.case_text.specs.Items.{past_items, word_at, whole_at, count_at, past_count}
use Rattle.case_text.specs.Fields.{field_at, number_field}

-- "case\nn 42\nrows 2 7 10\nend\n"
sample : List ℕ
sample =
    99 ∷ 97 ∷ 115 ∷ 101 ∷ 10 ∷ 110 ∷ 32 ∷ 52 ∷ 50 ∷ 10 ∷ 114 ∷ 111 ∷ 119 ∷ 115 ∷ 32 ∷ 50 ∷ 32 ∷ 55 ∷ 32 ∷ 49 ∷ 48 ∷ 10 ∷ 101 ∷ 110 ∷ 100 ∷ 10 ∷ []

-- "\nn ", "\nrows ", "\nrdim "
n : List ℕ
n = 10 ∷ 110 ∷ 32 ∷ []

rows : List ℕ
rows = 10 ∷ 114 ∷ 111 ∷ 119 ∷ 115 ∷ 32 ∷ []

rdim : List ℕ
rdim = 10 ∷ 114 ∷ 100 ∷ 105 ∷ 109 ∷ 32 ∷ []

number_there : number_field sample n ≡ 42
unfolding sample n past_run digit_of digit_more number_from begins first_from any
number_there = refl

list_there : (count_at sample (field_at sample rows) ∷ word_at sample (past_count sample (field_at sample rows)) 0 ∷ word_at sample (past_count sample (field_at sample rows)) 1 ∷ []) ≡ (2 ∷ 7 ∷ 10 ∷ [])
unfolding sample rows past_run digit_of digit_more number_from begins first_from any past_items
list_there = refl

-- no such field: the text's end, the number 0, a list of no item
field_absent : (field_at sample rdim ∷ number_field sample rdim ∷ count_at sample (field_at sample rdim) ∷ []) ≡ (length sample ∷ 0 ∷ 0 ∷ [])
unfolding sample rdim past_run digit_of digit_more number_from begins first_from any
field_absent = refl

-- "case\nwvalues 4 -5 70 -9223372036854775808 9223372036854775807\nend\n": the least and the largest among them
wholes : List ℕ
wholes =
    99 ∷ 97 ∷ 115 ∷ 101 ∷ 10 ∷ 119 ∷ 118 ∷ 97 ∷ 108 ∷ 117 ∷ 101 ∷ 115 ∷ 32 ∷ 52 ∷ 32 ∷ 45 ∷ 53 ∷ 32 ∷ 55 ∷ 48 ∷ 32 ∷ 45 ∷ 57 ∷ 50 ∷ 50 ∷ 51 ∷ 51 ∷ 55 ∷ 50 ∷ 48 ∷ 51 ∷ 54 ∷ 56 ∷ 53 ∷ 52 ∷ 55 ∷ 55 ∷ 53 ∷ 56 ∷ 48 ∷ 56 ∷ 32 ∷ 57 ∷ 50 ∷ 50 ∷ 51 ∷ 51 ∷ 55 ∷ 50 ∷ 48 ∷ 51 ∷ 54 ∷ 56 ∷ 53 ∷ 52 ∷ 55 ∷ 55 ∷ 53 ∷ 56 ∷ 48 ∷ 55 ∷ 10 ∷ 101 ∷ 110 ∷ 100 ∷ 10 ∷ []

-- "\nwvalues "
wvalues : List ℕ
wvalues = 10 ∷ 119 ∷ 118 ∷ 97 ∷ 108 ∷ 117 ∷ 101 ∷ 115 ∷ 32 ∷ []

whole : ℕ → ℤ
whole k = whole_at wholes (past_count wholes (field_at wholes wvalues)) k

wholes_there : (whole 0 ∷ whole 1 ∷ whole 2 ∷ whole 3 ∷ []) ≡ (negsuc 4 ∷ pos 70 ∷ negsuc 9223372036854775807 ∷ pos 9223372036854775807 ∷ [])
unfolding wholes wvalues whole past_run digit_of digit_more number_from begins first_from any past_items
wholes_there = refl
