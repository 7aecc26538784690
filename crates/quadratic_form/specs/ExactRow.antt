-- The exact case of an operator's row: where weights and entries are whole numbers and the exact products and sums stay within 2^53 in size,
-- the row's value in f64 is the whole number vᵀXv. It is the case of two equal rows.
-- Assumes nothing.
use Rattle.std.specs.Prelude.{ℕ, ◌+◌, ◌<◌, ℤ, Float}
use Rattle.takahashi.specs.Recurrence.{at}
use Rattle.exact.specs.Multiple.{Whole}
use Rattle.quadratic_form.specs.ExactCross.{bilinear, RowsWithin}

-- vᵀXv: k gives the column of a place of the operator, v its weight; the row has `size` places, from s on
abbrev pub quadratic : (ℕ → ℕ) → (ℕ → ℤ) → (ℕ → ℕ → ℤ) → ℕ → ℕ → ℤ
quadratic k v X s size = bilinear k k v v X s size s size

-- each product of two weights, each term and the running sum after each term is within 2^53
abbrev pub RowWithin : (ℕ → ℕ) → (ℕ → ℤ) → (ℕ → ℕ → ℤ) → ℕ → ℕ → Type 0
RowWithin k v X s size = RowsWithin k k v v X s size s size

-- the weights w are v's, and the table's entries at the row's pairs are X's
pub record WholeRow (k : ℕ → ℕ) (w : ℕ → Float) (Z : ℕ → ℕ → Float) (v : ℕ → ℤ) (X : ℕ → ℕ → ℤ) (s size : ℕ) : Type 0 where
  pub weights : (i : ℕ) → i < size → Whole (w (s + i)) (v (s + i))
  pub entries : (i j : ℕ) → i < size → j < size → Whole (at Z (k (s + i)) (k (s + j))) (X (k (s + i)) (k (s + j)))
