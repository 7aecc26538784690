-- The exact case of two rows: where weights and entries are whole numbers and the exact products and sums stay within 2^53 in size, the rows' value in f64
-- is the whole number vᵀXu.
-- Assumes nothing.
use Prim.Native.Nat.{ℕ, suc, ◌+◌, ◌<◌}
use Rattle.std.specs.Prelude.{ℤ, ◌+ℤ◌, ◌*ℤ◌, Float}
use Rattle.integers.specs.Sum.{Σℤ}
use Rattle.takahashi.specs.Recurrence.{at}
use Rattle.exact.specs.Multiple.{Whole, Small}

-- k and l give the columns of the places of the two operators, v and u their weights; the rows have `size` places from s on and `width` places from t on
module _ (k l : ℕ → ℕ) (v u : ℕ → ℤ) (X : ℕ → ℕ → ℤ) (s size t width : ℕ) where
  -- v(i)·u(j)·X(i, j)
  abbrev pub exact_term : ℕ → ℕ → ℤ
  exact_term i j = v (s + i) *ℤ u (t + j) *ℤ X (k (s + i)) (l (t + j))

  -- the terms of the places before i, and of i with the first m
  abbrev pub running_sum : ℕ → ℕ → ℤ
  running_sum i m = Σℤ i (λ a. Σℤ width (exact_term a)) +ℤ Σℤ m (exact_term i)

  -- vᵀXu: the sum of all terms
  abbrev pub bilinear : ℤ
  bilinear = Σℤ size (λ i. Σℤ width (exact_term i))

-- each product of two weights, each term and the running sum after each term is within 2^53
pub record RowsWithin (k l : ℕ → ℕ) (v u : ℕ → ℤ) (X : ℕ → ℕ → ℤ) (s size t width : ℕ) : Type 0 where
  pub weights : (i j : ℕ) → i < size → j < width → Small (v (s + i) *ℤ u (t + j))
  pub terms : (i j : ℕ) → i < size → j < width → Small (exact_term k l v u X s size t width i j)
  pub sums : (i j : ℕ) → i < size → j < width → Small (running_sum k l v u X s size t width i (suc j))

-- the weights w and x are v's and u's, and the table's entries at the rows' pairs are X's
pub record WholeRows (k l : ℕ → ℕ) (w x : ℕ → Float) (Z : ℕ → ℕ → Float) (v u : ℕ → ℤ) (X : ℕ → ℕ → ℤ) (s size t width : ℕ) : Type 0 where
  pub first : (i : ℕ) → i < size → Whole (w (s + i)) (v (s + i))
  pub second : (j : ℕ) → j < width → Whole (x (t + j)) (u (t + j))
  pub entries : (i j : ℕ) → i < size → j < width → Whole (at Z (k (s + i)) (l (t + j))) (X (k (s + i)) (l (t + j)))
