-- The end of a sum: the descendants greater than the row, whose entries of the inverse stand in one column and rise with them.
-- Assumes nothing.
use Rattle.std.specs.Prelude.{ℕ, ◌+◌, ◌-◌, ◌≤◌, ◌<◌, ◌≡◌, Bool, true, false, List, length, get_or, Float}
use Rattle.std.specs.Float.{binary64, nan}
use Rattle.std.specs.Float.Ieee.{eq, add, mul}
use Rattle.columns.specs.Columns.{row, value}
use Rattle.columns.specs.Kept.{f0, nonzero}
use Rattle.closure_route.specs.Run.{row_positions}
use Rattle.closure_route.specs.Column.{SumTerms, TermAt, term_position}
use Rattle.closure_route.specs.Sums.{SumInput}

-- the value at p is 0.0
abbrev pub zero_at : List Float → ℕ → Bool
zero_at values p = eq (value values p) f0

-- as many entries of the inverse, from `position` on, as values from `first` to below e
pub record SumRunInput (first e position values size : ℕ) : Type 0 where
  pub ordered : first ≤ e
  pub weighed : e ≤ values
  pub fits : position + (e - first) ≤ size

-- a word for the row of each value from `first` to below e, `base` words past it, with a position of the inverse
pub record SumRowsInput (base first e : ℕ) (rows : List ℕ) (values : ℕ) (scratch : List ℕ) (size : ℕ) : Type 0 where
  pub ordered : first ≤ e
  pub stored : e ≤ length rows
  pub weighed : e ≤ values
  pub words : (p : ℕ) → first ≤ p → p < e → (base + row rows p < length scratch) × (row_positions base rows scratch p < size)

-- the positions of a run
abbrev pub run_positions : ℕ → ℕ → ℕ → ℕ
run_positions first position p = position + (p - first)

-- x is the sum after the products of the values from `first` to below e and the entries at their positions: whatever numbers f start with `sum`
-- and go on by one product each, x is the last
abbrev pub ProductsSummed : List Float → List Float → ℕ → ℕ → (ℕ → ℕ) → Float → Float → Type 0
ProductsSummed values z first e position sum x =
    (f : ℕ → Float) → sum ≡ f first
    → ((p : ℕ) → first ≤ p → p < e → add binary64 (f p) (mul binary64 (value values p) (get_or z (position p) nan)) ≡ f (p + 1))
    → x ≡ f e

-- terms whose rows are all greater than i, so that positions rise with them; where `zeros` is false no value is 0.0
pub record SumRestInput (t : SumTerms) (i : ℕ) (zeros : Bool) (size : ℕ) : Type 0 where
  pub some : t.s < t.e
  pub sum : SumInput t i size
  pub below : t.j ≤ i
  pub above : (p : ℕ) → t.s ≤ p → p < t.e → i < row t.rows p
  pub nonzeros : zeros ≡ false → (p : ℕ) → t.s ≤ p → p < t.e → nonzero t.values p ≡ true
  pub rises : (p q : ℕ) → TermAt t p → p < q → TermAt t q → term_position t i p < term_position t i q
