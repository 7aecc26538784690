-- The exact case of operator variances: for whole weights each row's value is the exact vᵀXv. Beyond unit diagonals, what reads back.
-- Assumes nothing.
use Rattle.std.specs.Prelude.{ℕ, List, ℤ, Float}
use Rattle.integers.specs.Matrix.{Matrix}
use Rattle.selection.specs.Selection.{Lent}
use Rattle.operator_variances_with_limit.specs.ExactVariances as general
use Rattle.operator_variances.specs.Transformed.{TransformedCall, with_default}

module _ (x : TransformedCall) where
  -- row i has the whole weights v, and no weight product, product with an entry or running sum is beyond 2 ^ 53
  abbrev pub ExactRow : (ℕ → ℤ) → Matrix → ℕ → Type 0
  ExactRow = general.ExactRow (with_default x)

  -- X is what reads back, and vᵀXv what the output holds for each row in the exact case
  abbrev pub TransformedExact : Lent → List Float → Matrix → Type 0
  TransformedExact = general.TransformedExact (with_default x)
