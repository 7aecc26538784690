-- What a call for a chain that is not refused has, and what its answer means.
-- Assumes nothing.
use Rattle.std.specs.Prelude.{ℕ, ◌+◌, ◌*◌, ◌≤◌, ◌<◌, ◌≡◌, List, length}
use Rattle.refusal.specs.Bounds.{max_dimension}
use Rattle.pairs.specs.Scratch.{chain_words}
use Rattle.columns.specs.Factor.{Factor}
use Rattle.closed_set.specs.Requests.{Requests}
use Rattle.levels.specs.Levels.{level_word}
use Rattle.levels.specs.Written.{BackInput}

-- a pair, its level, and the words of the levels
pub record ListInput (n : ℕ) (starts rows : List ℕ) (values r c level : ℕ) (s : List ℕ) : Type 0 where
  pub back : BackInput n starts rows values r c s
  pub own : level ≡ level_word n s r c
  pub short : level ≤ 2 * n + 1

-- a factor and requests past their checks, a pair in order, and scratch
pub record SeekInput (n : ℕ) (starts rows : List ℕ) (values : ℕ) (request_rows request_columns : List ℕ) (r c : ℕ) (s : List ℕ) : Type 0 where
  pub small : n ≤ max_dimension
  pub factor : Factor n starts rows values
  pub requests : Requests n request_rows request_columns
  pub ordered : c ≤ r
  pub inside : r < n
  pub room : chain_words n ≤ length s
