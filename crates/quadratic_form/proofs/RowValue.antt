-- Laws of specs/RowValue.antt.
use Rattle.std.specs.Prelude.{ℕ, ◌≡◌, refl, List, Float}
use Rattle.quadratic_form.specs.RowValue.{operator_value, row_pair_value}

-- a row with itself: its variance, with the same bits
pub row_pair_value_same : (row_starts columns : List ℕ) (weights : List Float) (Z : ℕ → ℕ → Float) (i : ℕ)
    → row_pair_value row_starts columns weights row_starts columns weights Z i i ≡ operator_value row_starts columns weights Z i
row_pair_value_same row_starts columns weights Z i = refl
