-- Filling result lists in whole numbers: from the marks of a closed set to 20 or its entries, to the result lists, and to the reply.
-- Assumes nothing.
use Rattle.std.specs.Prelude.{ℕ, ◌+◌, ◌≤◌, ◌<◌, ◌≡◌, Bool, false, cond, List, length, get_or, drop, ℤ, pos, Result}
use Rattle.lists.specs.Overwrite.{overwrite}
use Rattle.refusal.specs.Bounds.{max_dimension}
use Rattle.refusal.specs.Steps.{first, after}
use Rattle.pairs.specs.Pair.{pair_total}
use Rattle.pairs.specs.Scratch.{queue_start}
use Rattle.pairs.specs.ColumnOrder.{column_marking, set_size}
use Rattle.columns.specs.Columns.{FactorLists}
use Rattle.columns.specs.Factor.{Factor}
use Rattle.columns.specs.WholeFactor.{whole_pattern}
use Rattle.closed_set.specs.ClosedSet.{Closed}
use Rattle.entries.specs.Entries.{entry_starts, entry_rows, entry_values}
use Rattle.entries.specs.WholeTable.{whole_table, exceeds}
use Rattle.marked_pairs.specs.MarkedPairs.{ColumnsReached}
use Rattle.selection.specs.Selection.{filled_starts, filled_rows, filled_values}
use Rattle.whole_selection.specs.Call.{WholeCall, WholeLent, work_places, whole_answer, whole_filling, exceed_steps}
use Rattle.refusal.specs.declared.Refusal.{Refusal}
use Rattle.diagnostics.specs.declared.SelectedInverseDiagnostics.{SelectedInverseDiagnostics}
use Rattle.refusal.specs.Refusal.{reply_of}

-- a factor past its checks, the marks of a closed set, and room for its positions and entries
pub record SetInput (f : FactorLists ℤ) (reached scratch : List ℕ) (work : List ℤ) : Type 0 where
  pub small : f.n ≤ max_dimension
  pub factor : Factor f.n f.starts f.rows (length f.values)
  pub closed : Closed f.n (whole_pattern f.starts f.rows f.values) (column_marking f.n scratch)
  pub room : queue_start f.n + pair_total f.n ≤ length scratch
  pub reached_long : f.n ≤ length reached
  pub reached_all : ColumnsReached f.n scratch reached
  pub fits : set_size f.n (column_marking f.n scratch) ≤ length work

-- whether something exceeds 2 ^ 53; if nothing does, the entries; the marks and what lies behind are as they were
pub record SetDone (f : FactorLists ℤ) (scratch₀ : List ℕ) (work₀ : List ℤ) (scratch : List ℕ) (work : List ℤ) (b : Bool) : Type 0 where
  pub tells : b ≡ exceeds f.n f.starts f.rows f.values (column_marking f.n scratch₀)
  pub long : length scratch ≡ length scratch₀
  pub marks : (p : ℕ) → p < queue_start f.n → get_or scratch p 0 ≡ get_or scratch₀ p 0
  pub later : drop (queue_start f.n + pair_total f.n) scratch ≡ drop (queue_start f.n + pair_total f.n) scratch₀
  pub work_long : length work ≡ length work₀
  pub rest : (p : ℕ) → set_size f.n (column_marking f.n scratch₀) ≤ p → get_or work p (pos 0) ≡ get_or work₀ p (pos 0)
  pub entries : b ≡ false
      → work ≡ overwrite (entry_values f.n (column_marking f.n scratch₀) (whole_table f.n f.starts f.rows f.values)) work₀

-- the same with room for the set in the result lists
pub record CompleteInput (f : FactorLists ℤ) (reached : List ℕ) (lent : WholeLent) : Type 0 where
  pub set : SetInput f reached lent.lists.scratch lent.work
  pub starts_fit : f.n + 1 ≤ length lent.lists.result_starts
  pub rows_fit : set_size f.n (column_marking f.n lent.lists.scratch) ≤ length lent.lists.result_rows
  pub values_fit : set_size f.n (column_marking f.n lent.lists.scratch) ≤ length lent.lists.result_values

-- whether something exceeds 2 ^ 53, and the result lists as they were; or they are filled
pub record CompleteDone (f : FactorLists ℤ) (lent left : WholeLent) (b : Bool) : Type 0 where
  pub tells : b ≡ exceeds f.n f.starts f.rows f.values (column_marking f.n lent.lists.scratch)
  pub starts_are : left.lists.result_starts
      ≡ cond b lent.lists.result_starts (overwrite (entry_starts f.n (column_marking f.n lent.lists.scratch)) lent.lists.result_starts)
  pub rows_are : left.lists.result_rows
      ≡ cond b lent.lists.result_rows (overwrite (entry_rows f.n (column_marking f.n lent.lists.scratch)) lent.lists.result_rows)
  pub values_are : left.lists.result_values
      ≡ cond b lent.lists.result_values
      (overwrite (entry_values f.n (column_marking f.n lent.lists.scratch) (whole_table f.n f.starts f.rows f.values)) lent.lists.result_values)
  pub later : drop (queue_start f.n + pair_total f.n) left.lists.scratch ≡ drop (queue_start f.n + pair_total f.n) lent.lists.scratch
  pub work_long : length left.work ≡ length lent.work
  pub rest : (p : ℕ) → set_size f.n (column_marking f.n lent.lists.scratch) ≤ p → get_or left.work p (pos 0) ≡ get_or lent.work p (pos 0)

-- the reply and the result lists of a call past its checks, which 20 alone can refuse; scratch and work list are as they were behind the places that a
-- call uses
pub record Uncleared (x : WholeCall) (lent : WholeLent) (reply : Result SelectedInverseDiagnostics Refusal) (left : WholeLent) : Type 0 where
  pub replies : reply_of reply ≡ first (exceed_steps x) (whole_answer x)
  pub starts_are : left.lists.result_starts ≡ after (exceed_steps x) (filled_starts (whole_filling x) lent.lists) lent.lists.result_starts
  pub rows_are : left.lists.result_rows ≡ after (exceed_steps x) (filled_rows (whole_filling x) lent.lists) lent.lists.result_rows
  pub values_are : left.lists.result_values ≡ after (exceed_steps x) (filled_values (whole_filling x) lent.lists) lent.lists.result_values
  pub later : drop (queue_start x.factor.n + pair_total x.factor.n) left.lists.scratch
      ≡ drop (queue_start x.factor.n + pair_total x.factor.n) lent.lists.scratch
  pub work_long : length left.work ≡ length lent.work
  pub rest : (p : ℕ) → work_places x.factor.n x.limit ≤ p → get_or left.work p (pos 0) ≡ get_or lent.work p (pos 0)
