-- More columns than there are numbers below n: one is outside or listed twice. Assumes nothing.
use Rattle.std.specs.Prelude.{ℕ, ◌<◌, ◌≡◌}

-- two places i < j below m with one value
pub record Twice (f : ℕ → ℕ) (m : ℕ) : Type 0 where
  pub i : ℕ
  pub j : ℕ
  pub before : i < j
  pub below : j < m
  pub same : f i ≡ f j
