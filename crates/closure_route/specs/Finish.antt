-- A column's sums, finished by a last step; and what the diagonal's entry asks.
-- Assumes nothing.
use Rattle.std.specs.Prelude.{ℕ, ◌≤◌, ◌<◌, ◌≡◌, Bool, true, false, List, length, get_or, set, Float}
use Rattle.std.specs.Float.{nan}
use Rattle.columns.specs.Columns.{row}
use Rattle.closure_route.specs.Column.{SumTerms}
use Rattle.closure_route.specs.Sums.{SumInput}

-- the places from first to below last have had the last step where their row is below j, and the later ones are as they were
pub record SumsFinished (j : ℕ) (step : Float → Float) (rows : List ℕ) (first last : ℕ) (z₀ z : List Float) : Type 0 where
  pub long : length z ≡ length z₀
  pub below : (q : ℕ) → first ≤ q → q < last → j < row rows q → get_or z q nan ≡ step (get_or z₀ q nan)
  pub after : (q : ℕ) → last ≤ q → get_or z q nan ≡ get_or z₀ q nan

-- x stored at q, or nothing
abbrev pub put_if : Bool → List Float → ℕ → Float → List Float
put_if true z q x = set z q x
put_if false z q x = z

-- the diagonal's entry can be made at q, where q's row is j
pub record StoreDiagonalInput (t : SumTerms) (q : ℕ) (result_rows : List ℕ) (size : ℕ) : Type 0 where
  pub listed : q < length result_rows
  pub fits : q < size
  pub sum : row result_rows q ≡ t.j → SumInput t t.j size
