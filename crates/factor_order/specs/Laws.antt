-- What a list that passes is: a permutation; its inverse undoes it both ways, and so does reordering by the inverse.
-- Assumes nothing.
use Prim.Native.Nat.{ℕ, zero, suc, ◌<◌}
use Rattle.std.specs.Prelude.{◌≡◌, List, length, set}
use Rattle.factor_order.specs.Permutation.{index}

-- ---- passing 10 and 11

-- the indices are below n, and none stands twice
pub record Distinct (perm : List ℕ) : Type 0 where
  pub inside : (i : ℕ) → i < length perm → index perm i < length perm
  pub once : (j i : ℕ) → j < i → i < length perm → index perm j ≡ index perm i → ⊥

-- ---- the inverse list, store by store

-- `old` after i is stored at perm i, for each i below m
unfoldable pub stored_to : List ℕ → List ℕ → ℕ → List ℕ
stored_to perm old zero = old
stored_to perm old (suc i) = set (stored_to perm old i) (index perm i) i
