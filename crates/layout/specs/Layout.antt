-- The rows and positions of a set's pairs, written column by column from its marks: what each step asks, and what it leaves.
-- Assumes nothing.
use Rattle.std.specs.Prelude.{ℕ, ◌+◌, ◌≤◌, ◌<◌, ◌≡◌, true, List, length, get_or, drop}
use Rattle.lists.specs.Select.{tally}
use Rattle.lists.specs.Overwrite.{overwrite}
use Rattle.refusal.specs.Bounds.{max_dimension}
use Rattle.pairs.specs.Pair.{pair_total, max_pairs}
use Rattle.pairs.specs.Scratch.{queue_start}
use Rattle.pairs.specs.ColumnOrder.{col_start, column_place, column_marking, set_size}
use Rattle.layout.specs.ColumnRows.{column_test, ListColumnInput, ColumnListed}
use Rattle.entries.specs.Entries.{entry_starts, entry_rows, column_count, position}
use Rattle.entries.specs.Position.{Positioned}

-- ---- the positions of listed rows

-- the rows listed from `first` to below e rise, and each has a word for its position, which is its place in the list and `shift`
pub record LayPositionsInput (base shift first e : ℕ) (rows s : List ℕ) : Type 0 where
  pub order : first ≤ e
  pub listed : e ≤ length rows
  pub few : shift + e ≤ max_pairs
  pub inside : (q : ℕ) → first ≤ q → q < e → base + get_or rows q 0 < length s
  pub rises : (p q : ℕ) → first ≤ p → p < q → q < e → get_or rows p 0 < get_or rows q 0

-- each row's position stands `base` words past it; no other word is changed
pub record PositionsLaid (base shift first e : ℕ) (rows s₀ s : List ℕ) : Type 0 where
  pub long : length s ≡ length s₀
  pub placed : (q : ℕ) → first ≤ q → q < e → get_or s (base + get_or rows q 0) 0 ≡ shift + q
  pub others : (w : ℕ) → ((q : ℕ) → first ≤ q → q < e → base + get_or rows q 0 ≡ w → ⊥) → get_or s w 0 ≡ get_or s₀ w 0

-- ---- one column

-- the column's marks start at `place`, and there is room for its rows and their positions
pub record LayColumnInput (n place c first : ℕ) (rows s : List ℕ) : Type 0 where
  pub room : ListColumnInput n place c first rows s
  pub few : first + tally (column_test n s c) c n ≤ max_pairs

-- the positions of column c's members, from `first` on; no other word is changed
pub record ColumnPlaced (n c first : ℕ) (s₀ s : List ℕ) : Type 0 where
  pub long : length s ≡ length s₀
  pub positions : (r : ℕ) → c ≤ r → r < n → column_marking n s₀ r c ≡ true
      → get_or s (queue_start n + column_place n r c) 0 ≡ first + tally (column_test n s₀ c) c r
  pub before : (q : ℕ) → q < queue_start n + col_start n c → get_or s q 0 ≡ get_or s₀ q 0
  pub after : (q : ℕ) → queue_start n + column_place n n c ≤ q → get_or s q 0 ≡ get_or s₀ q 0

-- the rows of column c, behind `first` rows, with their positions
pub record ColumnLaid (n c first : ℕ) (rows₀ s₀ rows s : List ℕ) (count : ℕ) : Type 0 where
  pub listed : ColumnListed n c n first rows₀ s₀ rows count
  pub placed : ColumnPlaced n c first s₀ s

-- a column that closing did not reach has no marked pair
abbrev pub ReachedColumn : ℕ → ℕ → List ℕ → List ℕ → Type 0
ReachedColumn n c reached s = (r : ℕ) → c ≤ r → r < n → column_marking n s r c ≡ true → 0 < get_or reached c 0

-- ---- all columns

-- marks of n columns with a word for each position, and room for the result
pub record LayOutInput (n : ℕ) (starts rows s : List ℕ) : Type 0 where
  pub small : n ≤ max_dimension
  pub room : queue_start n + pair_total n ≤ length s
  pub starts_fit : n + 1 ≤ length starts
  pub rows_fit : set_size n (column_marking n s) ≤ length rows

-- the result's starts and rows for the set that the marks say; its members' positions behind the marks, no other word changed
pub record LaidOut (n : ℕ) (starts₀ rows₀ s₀ starts rows s : List ℕ) (count : ℕ) : Type 0 where
  pub count_is : count ≡ set_size n (column_marking n s₀)
  pub starts_are : starts ≡ overwrite (entry_starts n (column_marking n s₀)) starts₀
  pub rows_are : rows ≡ overwrite (entry_rows n (column_marking n s₀)) rows₀
  pub long : length s ≡ length s₀
  pub marks : (p : ℕ) → p < queue_start n → get_or s p 0 ≡ get_or s₀ p 0
  pub positions : Positioned n (column_marking n s₀) s
  pub later : drop (queue_start n + pair_total n) s ≡ drop (queue_start n + pair_total n) s₀

-- ---- all columns, with no list of their rows

-- a place for where each column starts, and for the rows of one column
pub record LayFirstsInput (n : ℕ) (firsts listed s : List ℕ) : Type 0 where
  pub small : n ≤ max_dimension
  pub room : queue_start n + pair_total n ≤ length s
  pub firsts_fit : n ≤ length firsts
  pub listed_fit : n ≤ length listed

-- where the positions of each column's members start; the positions behind the marks, no other word changed
pub record FirstsLaid (n : ℕ) (s₀ firsts s : List ℕ) (count : ℕ) : Type 0 where
  pub count_is : count ≡ set_size n (column_marking n s₀)
  pub firsts_are : (c : ℕ) → c < n → get_or firsts c 0 ≡ column_count n (column_marking n s₀) c
  pub long : length s ≡ length s₀
  pub marks : (p : ℕ) → p < queue_start n → get_or s p 0 ≡ get_or s₀ p 0
  pub positions : (r c : ℕ) → c ≤ r → r < n → column_marking n s₀ r c ≡ true
      → get_or s (queue_start n + column_place n r c) 0 ≡ position n (column_marking n s₀) r c
  pub later : drop (queue_start n + pair_total n) s ≡ drop (queue_start n + pair_total n) s₀
