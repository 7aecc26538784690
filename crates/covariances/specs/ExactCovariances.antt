-- The exact case of covariances: for whole weights each row pair's value is the exact vᵀXu, and exchanging the operators gives the same. Beyond unit
-- diagonals, what reads back.
-- Assumes nothing.
use Rattle.std.specs.Prelude.{ℕ, List, ℤ, Float}
use Rattle.integers.specs.Matrix.{Matrix}
use Rattle.selection.specs.Selection.{Lent}
use Rattle.covariances_with_limit.specs.ExactCovariances as general
pub use Rattle.covariances_with_limit.specs.ExactCovariances.{first_place, place_count}
use Rattle.covariances.specs.Covariances.{CovarianceCall, with_default}

-- the same call with the operators exchanged
abbrev pub exchanged : CovarianceCall → CovarianceCall
exchanged x = record { factor = x.factor; a = x.b; b = x.a; a_rows = x.b_rows; b_rows = x.a_rows }

module _ (x : CovarianceCall) where
  -- vᵀXu of row pair p, whose rows have the whole weights v and u
  abbrev pub exact_covariance : (ℕ → ℤ) → (ℕ → ℤ) → Matrix → ℕ → ℤ
  exact_covariance = general.exact_covariance (with_default x)

  -- row pair p has the whole weights v and u, and no weight product, product with an entry or running sum is beyond 2 ^ 53
  abbrev pub ExactPair : (ℕ → ℤ) → (ℕ → ℤ) → Matrix → ℕ → Type 0
  ExactPair = general.ExactPair (with_default x)

  -- X is what reads back, and vᵀXu what the output holds for each row pair in the exact case
  abbrev pub CovariancesExact : Lent → List Float → Matrix → Type 0
  CovariancesExact = general.CovariancesExact (with_default x)
