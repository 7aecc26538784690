-- The columns of a result that the scatter walks over, and what it leaves in the sums. Of a column with m descendants, the rows of these stand from b on.
-- Assumes nothing.
use Rattle.std.specs.Prelude.{ℕ, ◌+◌, ◌-◌, ◌≤◌, ◌<◌, ◌≡◌, List, length, get_or, Float}
use Rattle.std.specs.Float.{nan}
use Rattle.refusal.specs.Bounds.{max_dimension}
use Rattle.exact.specs.Exact.{floats}
use Rattle.scatter.specs.Scatter.{Between}

-- ---- the marker
-- it has each descendant's position at its row, and no position elsewhere
pub record DescendantsMarked (rows : List ℕ) (b m : ℕ) (marker : List ℕ) : Type 0 where
  pub marked : (p : ℕ) → p < m → get_or marker (get_or rows (b + p) 0) 0 ≡ p
  pub only : (i p : ℕ) → i < max_dimension → p < m → get_or marker i 0 ≡ p → i ≡ get_or rows (b + p) 0

-- p is a place from q to below e whose row has the mark t
pub record MarkAt (rows marker : List ℕ) (q e t p : ℕ) : Type 0 where
  pub from : q ≤ p
  pub below : p < e
  pub mark : get_or marker (get_or rows p 0) 0 ≡ t

-- there is one, and the rows on the way have a place in the marker
pub record MarkAhead (rows marker : List ℕ) (q e t : ℕ) : Type 0 where
  pub stored : e ≤ length rows
  pub fits : (x : ℕ) → q ≤ x → x < e → get_or rows x 0 < max_dimension
  pub place : ℕ
  pub there : MarkAt rows marker q e t place

-- ---- the columns
-- x is a place from a to below e and has the row i
abbrev pub StandsAt : List ℕ → ℕ → ℕ → ℕ → ℕ → Type 0
StandsAt rows a e i x = (a ≤ x) × (x < e) × (get_or rows x 0 ≡ i)

-- the column of the descendant at position c, from a to below e: its own row first, rows ascending, all later descendants among them
pub record ColumnWalk (rows : List ℕ) (a e b m c : ℕ) : Type 0 where
  pub here : c < m
  pub few : m ≤ max_dimension
  pub inside : b + m ≤ length rows
  pub rising : (p u : ℕ) → p < u → u < m → get_or rows (b + p) 0 < get_or rows (b + u) 0
  pub begins : a < e
  pub stored : e ≤ length rows
  pub own : get_or rows a 0 ≡ get_or rows (b + c) 0
  pub fits : (x : ℕ) → a ≤ x → x < e → get_or rows x 0 < max_dimension
  pub ascends : (x y : ℕ) → a ≤ x → x < y → y < e → get_or rows x 0 < get_or rows y 0
  pub covers : (u : ℕ) → c < u → u < m → (x : ℕ) × StandsAt rows (a + 1) e (get_or rows (b + u) 0) x

-- and its second row is that of the next descendant
pub record PairWalk (rows : List ℕ) (a e b m c : ℕ) : Type 0 where
  pub column : ColumnWalk rows a e b m c
  pub next : c + 1 < m
  pub second : get_or rows (a + 1) 0 ≡ get_or rows (b + (c + 1)) 0

-- where the column of the descendant at position p starts, and where it ends
abbrev pub start_of : List ℕ → List ℕ → ℕ → ℕ → ℕ
start_of starts rows b p = get_or starts (get_or rows (b + p) 0) 0

abbrev pub end_of : List ℕ → List ℕ → ℕ → ℕ → ℕ
end_of starts rows b p = get_or starts (get_or rows (b + p) 0 + 1) 0

-- the columns of all m descendants; the later rows of one stand in the next one's, if it is among them
pub record Walk (starts rows : List ℕ) (b m : ℕ) : Type 0 where
  pub started : (p : ℕ) → p < m → get_or rows (b + p) 0 + 1 < length starts
  pub column : (p : ℕ) → p < m → ColumnWalk rows (start_of starts rows b p) (end_of starts rows b p) b m p
  pub after : (p : ℕ) → p + 1 < m → end_of starts rows b p ≤ start_of starts rows b (p + 1)
  pub closed : (p x : ℕ) → p + 1 < m → start_of starts rows b p < x → x < end_of starts rows b p
      → get_or rows (start_of starts rows b p + 1) 0 ≡ get_or rows (b + (p + 1)) 0
      → (y : ℕ) × StandsAt rows (start_of starts rows b (p + 1)) (end_of starts rows b (p + 1)) (get_or rows x 0) y

-- and `total` values are enough for them
abbrev pub ValuesEnough : List ℕ → List ℕ → ℕ → ℕ → ℕ → Type 0
ValuesEnough starts rows b m total = (p : ℕ) → p < m → end_of starts rows b p ≤ total

-- at the column of the descendant at position c, from a to below e
pub record WalkAt (starts rows : List ℕ) (a e b m c : ℕ) : Type 0 where
  pub walk : Walk starts rows b m
  pub here : c < m
  pub from : a ≡ start_of starts rows b c
  pub upto : e ≡ end_of starts rows b c

-- the next descendant's column has the rows of this one but the first
pub record SameRows (starts rows : List ℕ) (a e b m c : ℕ) : Type 0 where
  pub next : c + 1 < m
  pub second : get_or rows (a + 1) 0 ≡ get_or rows (b + (c + 1)) 0
  pub fits : e + (start_of starts rows b (c + 1) - (a + 1)) ≤ end_of starts rows b (c + 1)
  pub same : (x : ℕ) → a + 1 ≤ x → x < e → get_or rows (x + (start_of starts rows b (c + 1) - (a + 1))) 0 ≡ get_or rows x 0

-- ---- their values, those of a table Z
pub record ColumnIs (rows : List ℕ) (values : List Float) (a e b c : ℕ) (Z : ℕ → ℕ → Float) : Type 0 where
  pub value : (x : ℕ) → a ≤ x → x < e → get_or values x nan ≡ Z (get_or rows x 0) (get_or rows (b + c) 0)

pub record PairIs (rows : List ℕ) (values : List Float) (a e shift b c : ℕ) (Z : ℕ → ℕ → Float) : Type 0 where
  pub column : ColumnIs rows values a e b c Z
  pub value : (x : ℕ) → a + 1 ≤ x → x < e → get_or values (x + shift) nan ≡ Z (get_or rows x 0) (get_or rows (b + (c + 1)) 0)

pub record ColumnsAre (starts rows : List ℕ) (values : List Float) (b m : ℕ) (Z : ℕ → ℕ → Float) : Type 0 where
  pub column : (p : ℕ) → p < m → ColumnIs rows values (start_of starts rows b p) (end_of starts rows b p) b p Z

-- ---- the sums
-- where the values walked over are those of a table, the sums were the table's before position c and are so before d
pub record Scattered (Are : (ℕ → ℕ → Float) → Type 0) (rows : List ℕ) (b m : ℕ) (weights : List Float) (c d : ℕ) (sums sums' : List Float) : Type 0 where
  pub sums_are : (Z : ℕ → ℕ → Float) → Are Z → Between floats nan Z rows b m weights c sums → Between floats nan Z rows b m weights d sums'

-- one position further or more
pub record Advanced (starts rows : List ℕ) (values : List Float) (b m : ℕ) (weights : List Float) (c d : ℕ) (sums sums' : List Float) : Type 0 where
  pub further : c < d
  pub upto : d ≤ m
  pub scattered : Scattered (ColumnsAre starts rows values b m) rows b m weights c d sums sums'
