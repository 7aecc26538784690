-- The closed set's size counts its pairs: their positions are the numbers below it, one for each pair.
-- Assumes nothing.
use Rattle.std.specs.Prelude.{ℕ, ◌<◌, ◌≡◌}
use Rattle.selection.specs.Selection.{Selection, selected_size}
use Rattle.exact_entries.specs.Recurrence.{InClosedSet}

-- each pair of the set has its own number below the size, and each such number is a pair's
pub record Counts (x : Selection) (number : ℕ → ℕ → ℕ) : Type 0 where
  pub below : (r c : ℕ) → InClosedSet x r c → number r c < selected_size x
  pub own : (r c s d : ℕ) → InClosedSet x r c → InClosedSet x s d → number r c ≡ number s d → (r ≡ s) × (c ≡ d)
  pub each : (k : ℕ) → k < selected_size x → (r : ℕ) × (c : ℕ) × InClosedSet x r c × (number r c ≡ k)
