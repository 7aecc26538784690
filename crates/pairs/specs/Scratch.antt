-- The words of scratch that a call uses: the marks of pairs, one bit for each, and behind them a word for each pair, where the queue stands and later the
-- positions. Assumes nothing.
use Rattle.std.specs.Prelude.{ℕ, ◌+◌, ◌*◌, ◌/◌, ◌%◌}
use Rattle.bits.specs.Bits.{bit_words}
use Rattle.pairs.specs.Pair.{pair_total}

-- how many words hold the marks, ceil(T/32)
abbrev pub mark_words : ℕ → ℕ
mark_words n = bit_words (pair_total n)

-- the word where the queue, and later the positions, start
unfoldable pub queue_start : ℕ → ℕ
queue_start n = mark_words n

-- how many words a call uses
unfoldable pub scratch_words : ℕ → ℕ
scratch_words n = mark_words n + pair_total n + 4 * n

-- how many words a chain uses: a level and a place of the queue for each pair, and 4n more
unfoldable pub chain_words : ℕ → ℕ
chain_words n = 2 * pair_total n + 4 * n

-- a pair as one word of the queue, and the row and column of a word
abbrev pub packing : ℕ
packing = 4096

abbrev pub packed : ℕ → ℕ → ℕ
packed r c = r * packing + c

abbrev pub row_of : ℕ → ℕ
row_of w = w / packing

abbrev pub column_of : ℕ → ℕ
column_of w = w % packing
