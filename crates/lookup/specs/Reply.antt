-- What a place that is found says of the values.
-- Assumes nothing.
use Rattle.std.specs.Prelude.{ℕ, ◌<◌, ◌≡◌}
use Rattle.refusal.specs.Steps.{Reply, answered}

-- a place that is found is one of so many values
pub record Placed (found : Reply ℕ) (values : ℕ) : Type 0 where
  pub below : (p : ℕ) → found ≡ answered p → p < values
