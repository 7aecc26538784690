-- A sum of the recurrence over a column's stored entries, of which those kept below the diagonal count, with the inverse's entries read by position.
-- Assumes nothing.
use Prim.Native.Nat.{ℕ, ◌+◌, ◌≤◌, ◌<◌}
use Rattle.std.specs.Prelude.{◌≡◌, true, length, Float}
use mathlib.Core.List.{List, map}
use Rattle.std.specs.Float.{nan}
use Rattle.lists.specs.Select.{one, select}
use Rattle.refusal.specs.Bounds.{max_dimension}
use Rattle.pairs.specs.Pair.{pair_total}
use Rattle.pairs.specs.Scratch.{queue_start}
use Rattle.columns.specs.Columns.{row}
use Rattle.columns.specs.Kept.{nonzero, kept_below, entry}
use Rattle.columns.specs.Factor.{Column}
use Rattle.takahashi.specs.Recurrence.{Entry, run, dot}
use Rattle.exact.specs.Exact.{floats}
pub use Rattle.pairs.specs.Positions.{position_at, inverse_at}
use Rattle.closure_route.specs.Column.{SumTerms, TermAt, term_position}

-- the entries at some stored places
abbrev pub entries_at : List ℕ → List Float → List ℕ → List (Entry Float)
entries_at rows values places = map (entry rows values) places

-- a sum, with the product of the entry at p where it is kept below the diagonal of column j; r k is the inverse's entry for the row k
abbrev pub with_product : List ℕ → List Float → ℕ → (ℕ → Float) → ℕ → Float → Float
with_product rows values j r p sum = run floats r sum (entries_at rows values (one (kept_below rows (nonzero values) j p) p))

-- the sum over the stored entries from s to below e that are kept below the diagonal of column j, in their order
unfoldable pub sum_between : List ℕ → List Float → ℕ → (ℕ → Float) → ℕ → ℕ → Float
sum_between rows values j r s e = dot floats r (entries_at rows values (select (kept_below rows (nonzero values) j) s e))

-- the sum for row i, from s to below e
abbrev pub row_sum : SumTerms → List Float → ℕ → ℕ → ℕ → Float
row_sum t result_values i s e = sum_between t.rows t.values t.j (inverse_at nan t.n t.scratch result_values i) s e

-- over all the terms
abbrev pub entry_sum : SumTerms → List Float → ℕ → Float
entry_sum t result_values i = row_sum t result_values i t.s t.e

-- x is the sum for row i up to the last term, where `sum` is that up to the first
abbrev pub SumContinued : SumTerms → List Float → ℕ → Float → Float → Type 0
SumContinued t result_values i sum x = (s : ℕ) → s ≤ t.s → sum ≡ row_sum t result_values i s t.s → x ≡ row_sum t result_values i s t.e

-- a stored entry whose product can be taken
pub record AddProductInput (n i j p : ℕ) (rows : List ℕ) (values : List Float) (scratch : List ℕ) (size : ℕ) : Type 0 where
  pub small : n ≤ max_dimension
  pub left : i < n
  pub stored : p < length rows
  pub weighed : p < length values
  pub inside : row rows p < n
  pub room : queue_start n + pair_total n ≤ length scratch
  pub known : kept_below rows (nonzero values) j p ≡ true → position_at n scratch i (row rows p) < size

-- terms whose sum for row i can be taken
pub record SumInput (t : SumTerms) (i size : ℕ) : Type 0 where
  pub small : t.n ≤ max_dimension
  pub left : i < t.n
  pub column : Column t.rows (length t.values) t.s t.e
  pub inside : (p : ℕ) → t.s ≤ p → p < t.e → row t.rows p < t.n
  pub room : queue_start t.n + pair_total t.n ≤ length t.scratch
  pub known : (p : ℕ) → TermAt t p → term_position t i p < size
