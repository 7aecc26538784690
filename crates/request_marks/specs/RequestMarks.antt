-- What marking all requests asks.
-- Assumes nothing.
use Rattle.std.specs.Prelude.{ℕ, ◌+◌, ◌≤◌, List, length}
use Rattle.refusal.specs.Bounds.{max_dimension}
use Rattle.pairs.specs.Pair.{pair_total}
use Rattle.pairs.specs.Scratch.{queue_start}
use Rattle.closed_set.specs.Requests.{Requests}

-- requests past their checks, and words for their marks
pub record RequestsInput (n : ℕ) (rs cs s : List ℕ) : Type 0 where
  pub small : n ≤ max_dimension
  pub requests : Requests n rs cs
  pub room : queue_start n + pair_total n ≤ length s
