-- The exact case: f64's recurrence gives the inverse's own entries over a closed set of pairs where every exact step stays within 2 ^ 53. Assumes nothing.
-- A factor L is given by its diagonal and, for each column, the list of its entries below the diagonal with ascending rows; `factor` is its matrix.
use Rattle.std.specs.Prelude.{List, ℕ, ◌<◌, ℤ, pos, neg_ℤ, ◌-ℤ◌}
use Rattle.integers.specs.Matrix.{Matrix}
use Rattle.takahashi.specs.Recurrence.{Entry, at, table}
use Rattle.exact.specs.Multiple.{Small}
use Rattle.exact.specs.Exact.{integers, Products, RunningSums}

-- a diagonal of ones
abbrev pub ones : ℕ → ℤ
ones j = pos 1

-- with it, the exact recurrence's last step below the diagonal
abbrev pub unit_off : ℤ → ℤ → ℤ
unit_off d S = neg_ℤ S

-- and on the diagonal
abbrev pub unit_on : ℤ → ℤ → ℤ
unit_on d S = pos 1 -ℤ S

-- the exact recurrence in integers, for a factor with a diagonal of ones
abbrev pub unit_table : ℕ → (ℕ → List (Entry ℤ)) → Matrix
unit_table n desc = table integers unit_off unit_on n ones desc

-- every entry, product and running sum of that recurrence over the set In is at most 2 ^ 53 in size
pub record WithinBound (n : ℕ) (desc : ℕ → List (Entry ℤ)) (In : ℕ → ℕ → Type 0) : Type 0 where
  pub entry : (i j : ℕ) → In i j → Small (unit_table n desc i j)
  pub product_below : (i j : ℕ) → In i j → j < i → Products Small (λ k. at (unit_table n desc) i k) (desc j)
  pub sum_below : (i j : ℕ) → In i j → j < i → RunningSums Small (λ k. at (unit_table n desc) i k) (pos 0) (desc j)
  pub product_diagonal : (j : ℕ) → In j j → Products Small (λ k. unit_table n desc k j) (desc j)
  pub sum_diagonal : (j : ℕ) → In j j → RunningSums Small (λ k. unit_table n desc k j) (pos 0) (desc j)
