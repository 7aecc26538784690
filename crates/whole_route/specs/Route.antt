-- What the recurrence in whole numbers over a closed set asks, and what it leaves while the set's pairs are done from the last position to the first.
-- Positions go by columns and rows, so all on which an entry depends stand behind it.
-- Assumes nothing.
use Rattle.std.specs.Prelude.{ℕ, ◌+◌, ◌≤◌, ◌<◌, ◌≡◌, Bool, true, false, cond, ◌&&◌, List, eqb, length, get_or, set, ℤ, pos, neg_ℤ, ◌-ℤ◌}
use Rattle.lists.specs.Test.{any_in}
use Rattle.lists.specs.Overwrite.{overwrite}
use Rattle.refusal.specs.Bounds.{max_dimension}
use Rattle.pairs.specs.Pair.{pair_total}
use Rattle.pairs.specs.Scratch.{queue_start}
use Rattle.pairs.specs.ColumnOrder.{column_marking, set_size}
use Rattle.columns.specs.Columns.{start}
use Rattle.columns.specs.Factor.{Factor}
use Rattle.columns.specs.WholeFactor.{whole_pattern, whole_desc}
use Rattle.closed_set.specs.ClosedSet.{Closed}
use Rattle.exact.specs.Multiple.{Small}
use Rattle.exact.specs.Checked.{beyond}
use Rattle.exact.specs.Exceeds.{entry_exceeds, set_exceeds}
use Rattle.entries.specs.Entries.{column_count, position, entry_values}
use Rattle.entries.specs.WholeTable.{whole_table, KeptSmall}
use Rattle.entries.specs.Position.{Positioned}

-- an entry from its sum: below the diagonal -S, on it 1 - S
abbrev pub last_step : ℕ → ℕ → ℤ → ℤ
last_step i j S = cond (eqb i j) (pos 1 -ℤ S) (neg_ℤ S)

-- a sum that is small, and a place for the entry
pub record StoreInput (q : ℕ) (sum : ℤ) (size : ℕ) : Type 0 where
  pub small : Small sum
  pub fits : q < size

-- the entry is beyond 2 ^ 53 and the list as it was, or it stands at q
pub record EntryStored (q : ℕ) (z : ℤ) (work₀ work : List ℤ) (b : Bool) : Type 0 where
  pub tells : b ≡ beyond z
  pub leaves : work ≡ cond b work₀ (set work₀ q z)

-- a factor past its checks whose kept entries are small, and the marks of a closed set with its members' positions
pub record WholeSet (n : ℕ) (starts rows : List ℕ) (values : List ℤ) (scratch : List ℕ) : Type 0 where
  pub small : n ≤ max_dimension
  pub factor : Factor n starts rows (length values)
  pub kept_small : KeptSmall n starts rows values
  pub closed : Closed n (whole_pattern starts rows values) (column_marking n scratch)
  pub room : queue_start n + pair_total n ≤ length scratch
  pub positions : Positioned n (column_marking n scratch) scratch

-- the members whose position is q or more have the table's entries, which are small
abbrev pub WholesFrom : ℕ → (ℕ → ℕ → Bool) → (ℕ → ℕ → ℤ) → ℕ → List ℤ → Type 0
WholesFrom n S Z q work =
    (r c : ℕ) → c ≤ r → r < n → S r c ≡ true → q ≤ position n S r c → (get_or work (position n S r c) (pos 0) ≡ Z r c) × Small (Z r c)

-- the member (i, j) at position q, once those behind it are there
pub record EntryInput (n i j q s e : ℕ) (starts rows : List ℕ) (values : List ℤ) (scratch : List ℕ) (work : List ℤ) : Type 0 where
  pub whole : WholeSet n starts rows values scratch
  pub ordered : j ≤ i
  pub inside : i < n
  pub member : column_marking n scratch i j ≡ true
  pub position_is : position n (column_marking n scratch) i j ≡ q
  pub start_is : s ≡ start starts j
  pub end_is : e ≡ start starts (j + 1)
  pub fits : set_size n (column_marking n scratch) ≤ length work
  pub later : WholesFrom n (column_marking n scratch) (whole_table n starts rows values) (q + 1) work

-- it is there, or it exceeds 2 ^ 53 and the list is as it was
pub record EntryDone (n i j q : ℕ) (starts rows : List ℕ) (values : List ℤ) (work₀ work : List ℤ) (b : Bool) : Type 0 where
  pub tells : b ≡ entry_exceeds (whole_desc starts rows values) (whole_table n starts rows values) i j
  pub leaves : work ≡ cond b work₀ (set work₀ q (whole_table n starts rows values i j))

-- ---- one column

-- the rows of column j's members stand in a list, each at its position less `first`
pub record RowsInput (n j first count s e : ℕ) (listed starts rows : List ℕ) (values : List ℤ) (scratch : List ℕ) (work : List ℤ) : Type 0 where
  pub whole : WholeSet n starts rows values scratch
  pub inside : j < n
  pub first_is : first ≡ column_count n (column_marking n scratch) j
  pub count_is : first + count ≡ column_count n (column_marking n scratch) (j + 1)
  pub fits : set_size n (column_marking n scratch) ≤ length work
  pub long : count ≤ length listed
  pub start_is : s ≡ start starts j
  pub end_is : e ≡ start starts (j + 1)
  pub rows_are : (q : ℕ) → q < count → (j ≤ get_or listed q 0) × (get_or listed q 0 < n) × (column_marking n scratch (get_or listed q 0) j ≡ true)
      × (position n (column_marking n scratch) (get_or listed q 0) j ≡ first + q)
  pub later : WholesFrom n (column_marking n scratch) (whole_table n starts rows values) (first + count) work

-- whether a member of column j exceeds 2 ^ 53; if none does, all of them are solved; behind the column the list is as it was
pub record RowsDone (n j first : ℕ) (starts rows : List ℕ) (values : List ℤ) (scratch : List ℕ) (work₀ work : List ℤ) (b : Bool) : Type 0 where
  pub tells : b ≡ any_in (λ i. column_marking n scratch i j && entry_exceeds (whole_desc starts rows values) (whole_table n starts rows values) i j) j n
  pub long : length work ≡ length work₀
  pub rest : (p : ℕ) → column_count n (column_marking n scratch) (j + 1) ≤ p → get_or work p (pos 0) ≡ get_or work₀ p (pos 0)
  pub solved : b ≡ false → WholesFrom n (column_marking n scratch) (whole_table n starts rows values) first work

-- column j, once the later columns are done; `first` is where its members' positions start, and there is a list for their rows
pub record WholeColumnInput (n j first : ℕ) (listed starts rows : List ℕ) (values : List ℤ) (scratch : List ℕ) (work : List ℤ) : Type 0 where
  pub whole : WholeSet n starts rows values scratch
  pub inside : j < n
  pub first_is : first ≡ column_count n (column_marking n scratch) j
  pub fits : set_size n (column_marking n scratch) ≤ length work
  pub room : n ≤ length listed
  pub later : WholesFrom n (column_marking n scratch) (whole_table n starts rows values) (column_count n (column_marking n scratch) (j + 1)) work

-- ---- all columns

-- a factor, a closed set, where the positions of its columns start, and room for its entries
pub record WholeRouteInput (n : ℕ) (starts rows : List ℕ) (values : List ℤ) (firsts scratch : List ℕ) (work : List ℤ) : Type 0 where
  pub whole : WholeSet n starts rows values scratch
  pub starts_fit : n ≤ length firsts
  pub starts_are : (c : ℕ) → c < n → get_or firsts c 0 ≡ column_count n (column_marking n scratch) c
  pub fits : set_size n (column_marking n scratch) ≤ length work

-- whether the recurrence over the set exceeds 2 ^ 53; if it does not, its entries are there; behind them the list is as it was
pub record RouteDone (n : ℕ) (starts rows : List ℕ) (values : List ℤ) (scratch : List ℕ) (work₀ work : List ℤ) (b : Bool) : Type 0 where
  pub tells : b ≡ set_exceeds n (whole_desc starts rows values) (whole_table n starts rows values) (column_marking n scratch)
  pub long : length work ≡ length work₀
  pub rest : (p : ℕ) → set_size n (column_marking n scratch) ≤ p → get_or work p (pos 0) ≡ get_or work₀ p (pos 0)
  pub entries : b ≡ false → work ≡ overwrite (entry_values n (column_marking n scratch) (whole_table n starts rows values)) work₀
