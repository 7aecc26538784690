-- Positions of pairs among the entries of a list: each stands in the word of scratch that is as far past the queue's start as the pair's place.
-- Assumes nothing.
use Rattle.std.specs.Prelude.{ℕ, ◌+◌, min, max, List, get_or}
use Rattle.pairs.specs.Scratch.{queue_start}
use Rattle.pairs.specs.ColumnOrder.{column_place}

-- the word with the position of the pair of i and k, put in order
abbrev pub position_word : ℕ → ℕ → ℕ → ℕ
position_word n i k = queue_start n + column_place n (max i k) (min i k)

-- the position that stands there
abbrev pub position_at : ℕ → List ℕ → ℕ → ℕ → ℕ
position_at n s i k = get_or s (position_word n i k) 0

-- the inverse's entry at that position, of a list of any elements; a blank past its end
abbrev pub inverse_at : {W : Type 0} → W → ℕ → List ℕ → List W → ℕ → ℕ → W
inverse_at blank n s inverse i k = get_or inverse (position_at n s i k) blank
