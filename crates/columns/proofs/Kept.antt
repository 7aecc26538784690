-- Laws of specs/Kept.antt.
use Rattle.std.specs.Prelude.{ℕ, ◌+◌, Bool, not, List, ◌≡◌, Float}
use Rattle.std.proofs.Common.{ap}
use Rattle.std.specs.Float.Ieee.{ne, eq}
use Rattle.lists.specs.Sum.{sum_to_none, sum_to_next}
use Rattle.columns.specs.Columns.{value}
use Rattle.columns.specs.Kept.{f0, nonzero, kept_count, factor_pairs}

-- as code tests it by ==
pub nonzero-not : (values : List Float) (p : ℕ) {b : Bool} → eq (value values p) f0 ≡ b → nonzero values p ≡ not b
unfolding ne eq
nonzero-not values p e = ap not e

module _ (starts rows : List ℕ) (nz : ℕ → Bool) where
  pub factor_pairs_none : factor_pairs starts rows nz 0 ≡ 0
  unfolding factor_pairs
  factor_pairs_none = sum_to_none (kept_count starts rows nz)

  pub factor_pairs_next : (c : ℕ) → factor_pairs starts rows nz (c + 1) ≡ factor_pairs starts rows nz c + kept_count starts rows nz c
  unfolding factor_pairs
  factor_pairs_next c = sum_to_next (kept_count starts rows nz) c
