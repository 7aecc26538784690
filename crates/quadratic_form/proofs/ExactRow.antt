-- Laws of specs/ExactRow.antt.
use Rattle.std.specs.Prelude.{ℕ, ◌-◌, ℤ, Float}
use Rattle.exact.specs.Multiple.{Whole}
use Rattle.exact.specs.Exact.{floats}
use Rattle.quadratic_form.specs.RowValue.{row_value}
use Rattle.quadratic_form.proofs.ExactCross.{cross_value_exact}
use Rattle.quadratic_form.specs.ExactRow.{quadratic, RowWithin, WholeRow}

-- the row's value is the exact one
pub row_value_exact : (k : ℕ → ℕ) (w : ℕ → Float) (Z : ℕ → ℕ → Float) (v : ℕ → ℤ) (X : ℕ → ℕ → ℤ) (s e : ℕ)
    → WholeRow k w Z v X s (e - s) → RowWithin k v X s (e - s) → Whole (row_value floats k w Z s e) (quadratic k v X s (e - s))
row_value_exact k w Z v X s e W B =
    cross_value_exact k k w w Z v v X s e s e (record { first = W.weights; second = W.weights; entries = W.entries }) B
