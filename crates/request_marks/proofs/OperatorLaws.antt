-- An operator's rows, and pairs of their columns.
-- Assumes nothing.
use Prim.Native.Nat.{ℕ, ◌+◌, ◌≤◌, ◌<◌}
use native.Mathlib.Omega.{arith}
use mathlib.Core.List.{List}
use lib.ListN.{get_or}
use Rattle.refusal.specs.Bounds.{max_dimension}
use Rattle.columns.specs.Columns.{start}
use Rattle.columns.proofs.Factor.{starts_end}
use Rattle.columns.specs.Operator.{operator_rows, OperatorRows}
use Rattle.marked_pairs.specs.MarkedPairs.{Marked, InsertInput}
use Rattle.request_marks.specs.OperatorMarks.{RowInput}

-- the columns of an operator's row
pub row_input : {n : ℕ} {row_starts columns : List ℕ} {weights : ℕ} {w : List ℕ} {count : ℕ} → n ≤ max_dimension
    → OperatorRows n row_starts columns weights → Marked n w count → (i : ℕ) → i < operator_rows row_starts → RowInput n columns (start row_starts i) (start row_starts (i + 1)) w count
row_input small O M i h = record {
  small = small;
  ordered = O.starts_rise.rising i h;
  stored = starts_end O.starts_rise (i + 1) (omega arith);
  inside = O.inside;
  marked = M;
}

-- a part of the columns, with the words of a later turn
pub row_part : {n : ℕ} {columns : List ℕ} {s e : ℕ} {w : List ℕ} {count : ℕ} {w' : List ℕ} {count' : ℕ} → RowInput n columns s e w count
    → Marked n w' count' → (k : ℕ) → s ≤ k → k ≤ e → RowInput n columns s k w' count'
row_part R M k lo hi = record { small = R.small; ordered = lo; stored = omega (arith, R.stored); inside = R.inside; marked = M }

-- two columns, to be inserted as a pair
pub row_insert : {n : ℕ} {columns : List ℕ} {s e : ℕ} {w : List ℕ} {count : ℕ} → RowInput n columns s e w count → (a b : ℕ) → a < e → b < e
    → InsertInput n (get_or columns a 0) (get_or columns b 0) w count
row_insert R a b l m = record {
  small = R.small;
  first = R.inside a (omega (arith, R.stored));
  second = R.inside b (omega (arith, R.stored));
  marked = R.marked;
}
