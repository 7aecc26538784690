-- Columns whose descendants are one of them and descendants of that one: where that one is stored, and a list of the places found so far.
-- Assumes nothing.
use Rattle.std.specs.Prelude.{ℕ, ◌+◌, ◌-◌, ◌≤◌, ◌<◌, max, ◌≡◌, Bool, true, List, length, get_or}
use Rattle.columns.specs.Columns.{start, row}
use Rattle.columns.specs.Kept.{kept_below, pattern}
use Rattle.columns.specs.Factor.{Factor}
use Rattle.closed_set.specs.ClosedSet.{descends}

-- place q has a descendant of column c, of which every other descendant of c is a descendant
pub record Nested (starts rows : List ℕ) (nz : ℕ → Bool) (c q : ℕ) : Type 0 where
  pub from : start starts c ≤ q
  pub below : q < start starts (c + 1)
  pub kept : kept_below rows nz c q ≡ true
  pub rest : (d : ℕ) → descends (pattern starts rows nz) c d ≡ true → (d ≡ row rows q → ⊥) → descends (pattern starts rows nz) (row rows q) d ≡ true

-- the place after such a place of column c, or the column's end, for which 1 stands where that is 0
pub record Stop (starts rows : List ℕ) (nz : ℕ → Bool) (c r : ℕ) : Type 0 where
  pub upto : r ≤ max 1 (start starts (c + 1))
  pub after : r < start starts (c + 1) → 0 < r
  pub nested : r < start starts (c + 1) → Nested starts rows nz c (r - 1)

-- for each of n columns its stop, or 0
pub record Stops (n : ℕ) (starts rows : List ℕ) (nz : ℕ → Bool) (stops : List ℕ) : Type 0 where
  pub fits : n ≤ length stops
  pub stop : (c : ℕ) → c < n → 0 < get_or stops c 0 → Stop starts rows nz c (get_or stops c 0)

-- for each of n columns none
pub record Unlisted (n : ℕ) (stops : List ℕ) : Type 0 where
  pub fits : n ≤ length stops
  pub none : (c : ℕ) → c < n → get_or stops c 0 ≡ 0

-- a factor, one of its columns, and a list of stops
pub record StopInput (n c : ℕ) (starts rows : List ℕ) (nz : ℕ → Bool) (values : ℕ) (stops : List ℕ) : Type 0 where
  pub factor : Factor n starts rows values
  pub inside : c < n
  pub reached : Stops n starts rows nz stops

-- the column's stop, and a list of stops after it, which has all that were listed and that of the column
pub record StopFound (n c : ℕ) (starts rows : List ℕ) (nz : ℕ → Bool) (stops₀ stops : List ℕ) (r : ℕ) : Type 0 where
  pub long : length stops ≡ length stops₀
  pub reached : Stops n starts rows nz stops
  pub kept : (a : ℕ) → 0 < get_or stops₀ a 0 → 0 < get_or stops a 0
  pub here : 0 < get_or stops c 0
  pub stop : Stop starts rows nz c r
