-- The pairs of 3 columns, T = 6: where each stands, and how many words there are, by computation.
-- Assumes nothing.
use Rattle.std.specs.Prelude.{ℕ, ◌≡◌, refl, List, [], ◌∷◌}
use Rattle.bits.specs.Bits.{bit_words}
use Rattle.pairs.specs.Pair.{pair_total, row_place}
use Rattle.pairs.specs.ColumnOrder.{col_start, column_place}
use Rattle.pairs.specs.Scratch.{mark_words, queue_start, scratch_words, chain_words, packed, row_of, column_of}
use Rattle.pairs.specs.Positions.{position_at, inverse_at}

-- (0, 0), (1, 0), (1, 1), (2, 0), (2, 1), (2, 2) row by row; (0, 0), (1, 0), (2, 0), (1, 1), (2, 1), (2, 2) column by column
by_rows : row_place 0 0 ∷ row_place 1 0 ∷ row_place 1 1 ∷ row_place 2 0 ∷ row_place 2 1 ∷ row_place 2 2 ∷ [] ≡ 0 ∷ 1 ∷ 2 ∷ 3 ∷ 4 ∷ 5 ∷ []
unfolding pair_total
by_rows = refl

by_columns : column_place 3 0 0 ∷ column_place 3 1 0 ∷ column_place 3 2 0 ∷ column_place 3 1 1 ∷ column_place 3 2 1 ∷ column_place 3 2 2 ∷ [] ≡ 0 ∷ 1 ∷ 2 ∷ 3 ∷ 4 ∷ 5 ∷ []
unfolding col_start
by_columns = refl

-- one word of marks, the queue behind it, 1 + 6 + 12 and 12 + 12 words; 33 columns have 561 pairs, whose marks take 18 words
words : mark_words 3 ∷ queue_start 3 ∷ scratch_words 3 ∷ chain_words 3 ∷ mark_words 33 ∷ [] ≡ 1 ∷ 1 ∷ 19 ∷ 24 ∷ 18 ∷ []
unfolding pair_total bit_words queue_start scratch_words chain_words
words = refl

packed_pair : packed 2 1 ∷ row_of (packed 2 1) ∷ column_of (packed 2 1) ∷ [] ≡ 8193 ∷ 2 ∷ 1 ∷ []
packed_pair = refl

-- the positions of (0, 0), (1, 1), (2, 1) and (2, 2), which stand at the places 0, 3, 4 and 5; a position past the entries gives the blank
abbrev words_of-four : List ℕ
words_of-four = 57 ∷ 0 ∷ 9 ∷ 9 ∷ 1 ∷ 2 ∷ 3 ∷ []

pair_positions : position_at 3 words_of-four 0 0 ∷ position_at 3 words_of-four 2 1 ∷ position_at 3 words_of-four 1 2 ∷ position_at 3 words_of-four 2 2 ∷ [] ≡ 0 ∷ 2 ∷ 2 ∷ 3 ∷ []
unfolding pair_total bit_words queue_start col_start
pair_positions = refl

abbrev four_entries : List ℕ
four_entries = 5 ∷ 6 ∷ 7 ∷ 8 ∷ []

abbrev no_entry : ℕ
no_entry = 100

pair_entries : inverse_at no_entry 3 words_of-four four_entries 1 2 ∷ inverse_at no_entry 3 words_of-four four_entries 0 1 ∷ [] ≡ 7 ∷ 100 ∷ []
unfolding pair_total bit_words queue_start col_start
pair_entries = refl
