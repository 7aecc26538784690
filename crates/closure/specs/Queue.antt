-- What closing the queue's pairs asks and leaves. Which stored values are not 0 is a test of the place.
-- Assumes nothing.
use Rattle.std.specs.Prelude.{ℕ, ◌+◌, ◌-◌, ◌≤◌, ◌<◌, ◌≡◌, Bool, true, cond, List, ◌⊎◌, eqb, length, get_or, set, drop}
use Rattle.refusal.specs.Bounds.{max_dimension}
use Rattle.pairs.specs.Pair.{pair_total}
use Rattle.pairs.specs.Scratch.{queue_start}
use Rattle.pairs.specs.ColumnOrder.{column_marking}
use Rattle.columns.specs.Columns.{start, row}
use Rattle.columns.specs.Factor.{Factor}
use Rattle.columns.specs.Kept.{pattern}
use Rattle.closed_set.specs.ClosedSet.{Closed}
use Rattle.closure.specs.Nested.{Stops}
use Rattle.marked_pairs.specs.MarkedPairs.{queue_word, Marked, ColumnsReached, Inserted}

-- each marked pair is in the set
abbrev pub MarkedWithin : ℕ → (ℕ → ℕ → Bool) → List ℕ → Type 0
MarkedWithin n S s = (r c : ℕ) → c ≤ r → r < n → column_marking n s r c ≡ true → S r c ≡ true

-- marks and queue words stay, and so do the words behind the queue
pub record Grown (n : ℕ) (s : List ℕ) (count : ℕ) (s' : List ℕ) (count' : ℕ) : Type 0 where
  pub long : length s' ≡ length s
  pub more : count ≤ count'
  pub marks : (r c : ℕ) → c ≤ r → r < n → column_marking n s r c ≡ true → column_marking n s' r c ≡ true
  pub words : (j : ℕ) → j < count → queue_word n s' j ≡ queue_word n s j
  pub later : drop (queue_start n + pair_total n) s' ≡ drop (queue_start n + pair_total n) s

-- a factor, stops of its columns, two lists with 0 for each column, and marked pairs that are within the limit
pub record QueueInput (n : ℕ) (starts rows : List ℕ) (values : ℕ) (nz : ℕ → Bool) (stops spanStarts spanEnds : List ℕ) (limit : ℕ) (s : List ℕ) (count : ℕ) : Type 0 where
  pub small : n ≤ max_dimension
  pub factor : Factor n starts rows values
  pub stopped : Stops n starts rows nz stops
  pub span_starts_fit : n ≤ length spanStarts
  pub span_ends_fit : n ≤ length spanEnds
  pub unset : (c : ℕ) → c < n → get_or spanEnds c 0 ≡ 0
  pub marked : Marked n s count
  pub low : count ≤ limit

-- column c, and its stop, with the entries up to its end stored among the rows
pub record ColumnEndInput (c stop : ℕ) (starts rows : List ℕ) : Type 0 where
  pub next : c + 1 < length starts
  pub stored : start starts (c + 1) ≤ length rows
  pub after : stop < start starts (c + 1) → 0 < stop

-- where closing (r, c) ends among the column's entries: with the column, or at its stop before that, the row there being at most r
abbrev pub EndOf : List ℕ → List ℕ → ℕ → ℕ → ℕ → ℕ → Type 0
EndOf starts rows stop r c e =
    (e ≡ start starts (c + 1)) ⊎ ((stop < start starts (c + 1)) × (e ≡ stop) × (row rows (stop - 1) ≤ r))

-- the queue's words that closing column c's diagonal added stand from its first to below its end: where the queue goes on from head
abbrev pub after_span : List ℕ → List ℕ → ℕ → ℕ → ℕ
after_span spanStarts spanEnds head c = cond (eqb (get_or spanStarts c 0) head) (get_or spanEnds c 0) head

-- the words, once the entries of column c are closed with some row, the queue having had `before` words when that began
pub record EndColumnInput (n c stop before count : ℕ) (starts rows spanStarts spanEnds s : List ℕ) : Type 0 where
  pub small : n ≤ max_dimension
  pub inside : c < n
  pub next : c + 1 < length starts
  pub stored : start starts (c + 1) ≤ length rows
  pub rows_inside : (p : ℕ) → p < length rows → row rows p < n
  pub after : stop < start starts (c + 1) → 0 < stop
  pub span_starts_fit : n ≤ length spanStarts
  pub span_ends_fit : n ≤ length spanEnds
  pub order : before ≤ count
  pub marked : Marked n s count

-- of a diagonal whose column has a stop before its end the words added are noted, and the diagonal of the descendant there is inserted; else nothing is done
abbrev pub ColumnEnded : ℕ → ℕ → ℕ → ℕ → ℕ → ℕ → List ℕ → List ℕ → List ℕ → List ℕ → List ℕ → List ℕ → List ℕ → List ℕ → ℕ → Type 0
ColumnEnded n r c stop before count starts rows spanStarts spanEnds s spanStarts' spanEnds' s' m =
    ((r ≡ c → start starts (c + 1) ≤ stop) × (spanStarts' ≡ spanStarts) × (spanEnds' ≡ spanEnds) × (s' ≡ s) × (m ≡ count))
    ⊎ ((r ≡ c) × (stop < start starts (c + 1)) × (spanStarts' ≡ set spanStarts c before) × (spanEnds' ≡ set spanEnds c count)
    × Inserted n (row rows (stop - 1)) (row rows (stop - 1)) s count s' m)

-- each pair added is in every closed set that holds those marked before; within the limit the marked pairs are closed, and the stops of their
-- columns are listed
pub record QueueClosed (n : ℕ) (starts rows : List ℕ) (nz : ℕ → Bool) (limit : ℕ) (s₀ : List ℕ) (first : ℕ) (stops s : List ℕ) (count : ℕ) : Type 0 where
  pub marked : Marked n s count
  pub grown : Grown n s₀ first s count
  pub within : (S : ℕ → ℕ → Bool) → Closed n (pattern starts rows nz) S → MarkedWithin n S s₀ → MarkedWithin n S s
  pub closed : count ≤ limit → Closed n (pattern starts rows nz) (column_marking n s)
  pub reached : count ≤ limit → ColumnsReached n s stops
  pub most : count ≤ limit + 1
