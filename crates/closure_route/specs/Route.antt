-- What the recurrence over a closed set asks, and what it leaves while its columns are done from the last to the first.
-- Assumes nothing.
use Rattle.std.specs.Prelude.{ℕ, ◌+◌, ◌≤◌, ◌<◌, ◌≡◌, Bool, true, List, length, get_or, Float}
use Rattle.std.specs.Float.{nan}
use Rattle.refusal.specs.Bounds.{max_dimension}
use Rattle.pairs.specs.Pair.{pair_total}
use Rattle.pairs.specs.Scratch.{queue_start}
use Rattle.pairs.specs.ColumnOrder.{column_marking, set_size}
use Rattle.closed_set.specs.ClosedSet.{Closed}
use Rattle.columns.specs.Kept.{nonzero, pattern}
use Rattle.columns.specs.Factor.{Factor}
use Rattle.entries.specs.Entries.{column_count, position}
use Rattle.entries.specs.Position.{Positioned}

-- a factor, the starts and rows of the result, and the scratch with the marks of a set and its members' positions
pub record RouteLists : Type 0 where
  pub n : ℕ
  pub starts : List ℕ
  pub rows : List ℕ
  pub values : List Float
  pub result_starts : List ℕ
  pub result_rows : List ℕ
  pub scratch : List ℕ

-- from a function's parameters in their order
abbrev pub route_lists : ℕ → List ℕ → List ℕ → List Float → List ℕ → List ℕ → List ℕ → RouteLists
route_lists n starts rows values result_starts result_rows scratch = record {
  n = n;
  starts = starts;
  rows = rows;
  values = values;
  result_starts = result_starts;
  result_rows = result_rows;
  scratch = scratch;
}

-- the set that the marks say
abbrev pub route_set : RouteLists → ℕ → ℕ → Bool
route_set g = column_marking g.n g.scratch

-- a factor past its checks, the marks of a closed set with its members' positions, its starts and rows, and room for its entries
pub record ClosureRouteInput (g : RouteLists) (size : ℕ) : Type 0 where
  pub small : g.n ≤ max_dimension
  pub factor : Factor g.n g.starts g.rows (length g.values)
  pub closed : Closed g.n (pattern g.starts g.rows (nonzero g.values)) (route_set g)
  pub room : queue_start g.n + pair_total g.n ≤ length g.scratch
  pub positions : Positioned g.n (route_set g) g.scratch
  pub starts_fit : g.n + 1 ≤ length g.result_starts
  pub starts_are : (c : ℕ) → c ≤ g.n → get_or g.result_starts c 0 ≡ column_count g.n (route_set g) c
  pub rows_fit : set_size g.n (route_set g) ≤ length g.result_rows
  pub rows_are : (r c : ℕ) → c ≤ r → r < g.n → route_set g r c ≡ true → get_or g.result_rows (position g.n (route_set g) r c) 0 ≡ r
  pub values_fit : set_size g.n (route_set g) ≤ size

-- the entries of the columns from m on are those of the table
abbrev pub SolvedFrom : ℕ → (ℕ → ℕ → Bool) → (ℕ → ℕ → Float) → ℕ → List Float → Type 0
SolvedFrom n S Z m z = (r c : ℕ) → m ≤ c → c ≤ r → r < n → S r c ≡ true → get_or z (position n S r c) nan ≡ Z r c

-- and behind the set's entries the list is as it was
pub record ColumnsSolved (n : ℕ) (S : ℕ → ℕ → Bool) (Z : ℕ → ℕ → Float) (m : ℕ) (z₀ z : List Float) : Type 0 where
  pub long : length z ≡ length z₀
  pub rest : (q : ℕ) → set_size n S ≤ q → get_or z q nan ≡ get_or z₀ q nan
  pub entries : SolvedFrom n S Z m z

-- column j, once the later columns are those of the table
pub record ColumnInput (g : RouteLists) (j : ℕ) (Z : ℕ → ℕ → Float) (z : List Float) : Type 0 where
  pub route : ClosureRouteInput g (length z)
  pub inside : j < g.n
  pub later : SolvedFrom g.n (route_set g) Z (j + 1) z
