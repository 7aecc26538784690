-- What an answer of the call promises: every pair of the columns is in the result, every choice of weights within the ranges has its variance within the bounds,
-- equal ends give the single exact value, and wider ranges wider bounds. The bounds need not be the variance of one choice of all weights.
-- Assumes nothing.
use Rattle.std.specs.Prelude.{ℕ, ◌≡◌, List, length, ℤ}
use Rattle.refusal.specs.Steps.{answered, first}
use Rattle.quadratic_form.specs.RowValue.{term_column}
use Rattle.quadratic_form.specs.ExactCross.{bilinear}
use Rattle.weight_ranges.specs.Ranges.{range_steps, range_bounds}

-- the bounds (low, high) are answered
abbrev pub BoundsAnswered : List ℕ → List ℕ → List ℤ → List ℕ → List ℤ → List ℤ → ℤ → ℤ → Type 0
BoundsAnswered starts rows values columns lows highs low high =
    answered (low, high) ≡ first (range_steps starts rows values columns lows highs) (range_bounds starts rows values columns lows highs)

-- vᵀXv of the row with the weights v: the covariance of the row with itself
abbrev pub row_variance : List ℕ → (ℕ → ℤ) → (ℕ → ℕ → ℤ) → ℤ
row_variance columns v X = bilinear (term_column columns) (term_column columns) v v X 0 (length columns) 0 (length columns)
