-- A pair's position, which stands in a word behind the marks: what reading it asks, and the word counted from the base of its column.
-- Assumes nothing.
use Rattle.std.specs.Prelude.{ℕ, ◌+◌, ◌≤◌, ◌<◌, min, max, ◌≡◌, List, length, get_or}
use Rattle.std.proofs.Common.{arith, ap, ap₂}
use Rattle.refusal.specs.Bounds.{max_dimension}
use Rattle.pairs.specs.Pair.{pair_total, max_pairs}
use Rattle.pairs.proofs.Pair.{pair_total_small}
use Rattle.pairs.specs.Scratch.{queue_start}
use Rattle.pairs.proofs.Scratch.{queue_start_small}
use Rattle.pairs.specs.ColumnOrder.{col_start, column_place}
use Rattle.pairs.proofs.ColumnOrder.{col_start_mono, col_start_total, column_place_below}
use Rattle.pairs.specs.Positions.{position_word, position_at}

-- a pair of n columns, and scratch of as many words as the positions need
pub record PositionInput (n i k words : ℕ) : Type 0 where
  pub small : n ≤ max_dimension
  pub left : i < n
  pub right : k < n
  pub room : queue_start n + pair_total n ≤ words

-- a pair whose position is that of one of `size` entries
pub record PairEntryInput (n i k : ℕ) (scratch : List ℕ) (size : ℕ) : Type 0 where
  pub pair : PositionInput n i k (length scratch)
  pub known : position_at n scratch i k < size

-- the word with the position is there
pub word_inside : {n i k words : ℕ} → PositionInput n i k words → position_word n i k < words
word_inside {n} {i} {k} R =
    let b = column_place_below n (max i k) (min i k) (omega arith) (omega (arith, R.left, R.right)) in
    omega (arith, R.room)

-- from the base of the column of the lesser of the two
pub word_right : (n base i k : ℕ) → base + k ≡ queue_start n + col_start n k → k ≤ i → base + i ≡ position_word n i k
word_right n base i k e h =
    let a : i ≡ max i k = omega arith in
    let b : k ≡ min i k = omega arith in
    omega (arith, ap₂ (column_place n) a b)

pub word_left : (n base i k : ℕ) → base + i ≡ queue_start n + col_start n i → i ≤ k → base + k ≡ position_word n i k
word_left n base i k e h =
    let a : k ≡ max i k = omega arith in
    let b : i ≡ min i k = omega arith in
    omega (arith, ap₂ (column_place n) a b)

-- the shift fits, past the marks
pub shift_fits : (n c shift : ℕ) → n ≤ max_dimension → c < n → shift + c ≡ col_start n c → queue_start n + shift ≤ max_pairs + max_pairs
shift_fits n c shift small h e =
    omega (arith, queue_start_small n small, pair_total_small n small, col_start_mono n c n (omega arith), col_start_total n)

-- a word that has the position of the pair, and can be read
module _ {n i k : ℕ} {scratch : List ℕ} {size : ℕ} (R : PairEntryInput n i k scratch size) {word : ℕ} (w : word ≡ position_word n i k) where
  pub word_position : get_or scratch word 0 ≡ position_at n scratch i k
  word_position = ap (λ (x : ℕ). get_or scratch x 0) w

  pub word_reads : (word < length scratch) × (get_or scratch word 0 < size)
  word_reads = (omega (arith, word_inside R.pair), rw word_position R.known)
