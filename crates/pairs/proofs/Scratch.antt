-- Laws of specs/Scratch.antt.
use Rattle.std.specs.Prelude.{ℕ, ◌+◌, ◌*◌, ◌/◌, ◌≤◌, ◌<◌, ◌≡◌, refl}
use Rattle.std.proofs.Common.{arith}
use Rattle.bits.proofs.Bits.{word_below, bit_words_most}
use Rattle.refusal.specs.Bounds.{max_dimension}
use Rattle.pairs.specs.Pair.{pair_total, max_pairs}
use Rattle.pairs.proofs.Pair.{pair_total_small}
use Rattle.pairs.specs.Scratch.{mark_words, queue_start, scratch_words, chain_words, packing, packed, row_of, column_of}

pub row_packed : (r c : ℕ) → c < packing → row_of (packed r c) ≡ r
row_packed r c h = omega arith

pub column_packed : (r c : ℕ) → c < packing → column_of (packed r c) ≡ c
column_packed r c h = omega arith

-- as the code computes them
pub queue_start_total : (n : ℕ) → mark_words n ≡ queue_start n
unfolding queue_start
queue_start_total n = refl

pub scratch_words_total : (n : ℕ) → mark_words n + pair_total n + 4 * n ≡ scratch_words n
unfolding scratch_words
scratch_words_total n = refl

pub chain_words_total : (n : ℕ) → 2 * pair_total n + 4 * n ≡ chain_words n
unfolding chain_words
chain_words_total n = refl

-- the marks' words end before the queue
pub queue_start_words : (n : ℕ) → mark_words n ≤ queue_start n
unfolding queue_start
queue_start_words n = omega arith

-- so the word of a pair's mark is before it
pub queue_start_mark : (n p : ℕ) → p < pair_total n → p / 32 < queue_start n
queue_start_mark n p l = omega (arith, word_below p (pair_total n) l, queue_start_words n)

-- the queue ends within the scratch
pub scratch_words_queue : (n : ℕ) → queue_start n + pair_total n ≤ scratch_words n
unfolding queue_start scratch_words
scratch_words_queue n = omega arith

-- and so within any words that are enough
pub scratch_words_room : (n : ℕ) {words : ℕ} → scratch_words n ≤ words → queue_start n + pair_total n ≤ words
scratch_words_room n h = omega (arith, scratch_words_queue n)

-- the queue's start is small
pub queue_start_small : (n : ℕ) → n ≤ max_dimension → queue_start n ≤ max_pairs
unfolding queue_start
queue_start_small n h = omega (arith, bit_words_most (pair_total n), pair_total_small n h)

-- the levels of a chain and their queue stand in the first words
pub chain_words_levels : (n : ℕ) → pair_total n + pair_total n ≤ chain_words n
unfolding chain_words
chain_words_levels n = omega arith
