-- The exact recurrence of a factor given as L, D, L transposed, said over the multipliers of 2 ^ -s, and f64's beside it: where every exact product, sum,
-- quotient and entry over the set is a multiple of 2 ^ -s with a multiplier of at most 2 ^ 53 in size, f64's entries are those of the inverse of L * D * Lᵀ.
-- Assumes nothing.
use Rattle.std.specs.Prelude.{◌≡◌, ◌≢◌, List, ℕ, suc, ◌^◌, ◌<◌, ℤ, pos, neg_ℤ, ◌-ℤ◌, ◌*ℤ◌}
use Rattle.integers.specs.Matrix.{Matrix}
use Rattle.takahashi.specs.Entries.{Entry, Ascend}
use Rattle.takahashi.specs.Recurrence.{dot, at}
use Rattle.exact.specs.Multiple.{Small}
use Rattle.exact.specs.Exact.{integers, BoundedSums}
use Rattle.exact.specs.Factor.{factor}

-- The exact recurrence over the multipliers of 1 / c, said with no fraction. L's entries below its diagonal of ones are l / c, the pivots w / c, the table's entries
-- z / c, and a sum S of products of multipliers stands for S / c²: z / c is - (S / c²) below the diagonal, and 1 / (w / c) - S / c² on it
pub record PivotRecurs (c : ℤ) (w : ℕ → ℤ) (desc : ℕ → List (Entry ℤ)) (P : ℕ → ℕ → Type 0) (z : ℕ → ℕ → ℤ) : Type 0 where
  pub below_is : (i j : ℕ) → P i j → j < i → z i j *ℤ c ≡ neg_ℤ (dot integers (λ k. at z i k) (desc j))
  pub diagonal_is : (j : ℕ) → P j j → z j j *ℤ c *ℤ w j ≡ c *ℤ c *ℤ c -ℤ dot integers (λ k. z k j) (desc j) *ℤ w j

-- each entry, product, running sum and quotient of the exact recurrence over a set is a multiple of 2 ^ -s with a multiplier of at most 2 ^ 53; `reciprocal` is
-- 1 / d, d the pivot
pub record PivotBounded (s : ℕ) (w : ℕ → ℤ) (desc : ℕ → List (Entry ℤ)) (P : ℕ → ℕ → Type 0) (z : ℕ → ℕ → ℤ) : Type 0 where
  pub entry : (i j : ℕ) → P i j → Small (z i j)
  pub sums : BoundedSums s desc P z
  pub reciprocal : (j : ℕ) → P j j → (r : ℤ) × (r *ℤ w j ≡ pos (2 ^ s) *ℤ pos (2 ^ s)) × Small r

-- ---- multiples of 2 ^ -s: L has the multipliers `desc` below its diagonal of ones, and `w` are those of the pivots
module _ (s n : ℕ) (w : ℕ → ℤ) (desc : ℕ → List (Entry ℤ)) (nonzero : (j : ℕ) → j < n → w j ≢ pos 0)
    (ascend : (j : ℕ) → j < n → Ascend n (suc j) (desc j)) where
  abbrev pub c : ℤ
  c = pos (2 ^ s)

  -- L's multipliers
  abbrev pub unit_factor : Matrix
  unit_factor = factor (λ j. c) desc
