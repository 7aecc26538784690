-- All diagonals as requested pairs.
-- Assumes nothing.
use Rattle.std.specs.Prelude.{ℕ, ◌+◌, ◌≤◌, Bool, ◌&&◌, List, eqb, ltb, length}
use Rattle.refusal.specs.Bounds.{max_dimension}
use Rattle.pairs.specs.Pair.{pair_total}
use Rattle.pairs.specs.Scratch.{queue_start}

-- (r, c) is one of the first n diagonals
abbrev pub diagonal_pairs : ℕ → ℕ → ℕ → Bool
diagonal_pairs n r c = ltb r n && eqb r c

-- a dimension within its bound, and words for the pairs' marks
pub record DiagonalsInput (n : ℕ) (s : List ℕ) : Type 0 where
  pub small : n ≤ max_dimension
  pub room : queue_start n + pair_total n ≤ length s
