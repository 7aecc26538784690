-- A run of positions: numbers that rise with their place, and whose first and last differ by as much as their places, follow one another.
-- Assumes nothing.
use Rattle.std.specs.Prelude.{ℕ, ◌+◌, ◌-◌, ◌≤◌, ◌<◌, ◌≡◌, List, length, get_or}
use Rattle.columns.specs.Columns.{row}

-- f rises from one place to any later one
abbrev pub Rises : (ℕ → ℕ) → ℕ → ℕ → Type 0
Rises f from last = (q q' : ℕ) → from ≤ q → q < q' → q' < last → f q < f q'

-- f goes up by one from each place to the next
abbrev pub Follows : (ℕ → ℕ) → ℕ → ℕ → Type 0
Follows f from last = (q : ℕ) → from ≤ q → q < last → f q ≡ f from + (q - from)

-- the positions of rows, each in the word `base` past its row
abbrev pub row_positions : ℕ → List ℕ → List ℕ → ℕ → ℕ
row_positions base rows scratch p = get_or scratch (base + row rows p) 0

-- the rows from `from` to below last, whose positions rise
pub record IsRunInput (base from last : ℕ) (rows scratch : List ℕ) : Type 0 where
  pub some : from < last
  pub listed : last ≤ length rows
  pub inside : (p : ℕ) → from ≤ p → p < last → base + row rows p < length scratch
  pub rises : Rises (row_positions base rows scratch) from last
