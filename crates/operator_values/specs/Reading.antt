-- What computing an operator's values from entries that are read by position asks.
-- Assumes nothing.
use Rattle.std.specs.Prelude.{ℕ, ◌+◌, ◌≤◌, ◌<◌, List, length, get_or}
use Rattle.refusal.specs.Bounds.{max_dimension}
use Rattle.pairs.specs.Pair.{pair_total}
use Rattle.pairs.specs.Scratch.{queue_start}
use Rattle.pairs.specs.Positions.{position_at}
use Rattle.columns.specs.Columns.{start}
use Rattle.columns.specs.Operator.{operator_rows, OperatorRows}
use Rattle.pair_places.specs.Position.{PairEntryInput}
use Rattle.request_marks.specs.CrossRequests.{OperatorPairs}
use Rattle.quadratic_form.specs.RowValue.{term_column}

-- places from s to below e of one operator and from t to below f of another, the pairs of whose columns can be read among `size` entries
pub record CrossValueInput (n : ℕ) (aColumns : List ℕ) (aWeights : ℕ) (bColumns : List ℕ) (bWeights : ℕ) (scratch : List ℕ) (size s e t f : ℕ) : Type 0 where
  pub small : n ≤ max_dimension
  pub ordered : s ≤ e
  pub stored : e ≤ length aColumns
  pub weighed : e ≤ aWeights
  pub ordered₂ : t ≤ f
  pub stored₂ : f ≤ length bColumns
  pub weighed₂ : f ≤ bWeights
  pub inside : (a : ℕ) → s ≤ a → a < e → term_column aColumns a < n
  pub reads : (a b : ℕ) → s ≤ a → a < e → t ≤ b → b < f → PairEntryInput n (term_column aColumns a) (term_column bColumns b) scratch size

-- an operator past its checks, whose rows' pairs can be read, and an output of `room` places
pub record OperatorValuesInput (n : ℕ) (row_starts columns : List ℕ) (weights : ℕ) (scratch : List ℕ) (size room : ℕ) : Type 0 where
  pub small : n ≤ max_dimension
  pub operator : OperatorRows n row_starts columns weights
  pub words : queue_start n + pair_total n ≤ length scratch
  pub known : (i a b : ℕ) → i < operator_rows row_starts → start row_starts i ≤ a → a < start row_starts (i + 1) → start row_starts i ≤ b → b < start row_starts (i + 1)
      → position_at n scratch (term_column columns a) (term_column columns b) < size
  pub fits : operator_rows row_starts ≤ room

-- two operators past their checks, row pairs inside them, whose columns' pairs can be read, and an output of `room` places
pub record RowPairValuesInput (n : ℕ) (aStarts aColumns : List ℕ) (aWeights : ℕ) (bStarts bColumns : List ℕ) (bWeights : ℕ) (a_rows b_rows scratch : List ℕ) (size room : ℕ) : Type 0 where
  pub small : n ≤ max_dimension
  pub pairs : OperatorPairs n aStarts aColumns aWeights bStarts bColumns bWeights a_rows b_rows
  pub words : queue_start n + pair_total n ≤ length scratch
  pub known : (p a b : ℕ) → p < length a_rows → start aStarts (get_or a_rows p 0) ≤ a → a < start aStarts (get_or a_rows p 0 + 1)
      → start bStarts (get_or b_rows p 0) ≤ b → b < start bStarts (get_or b_rows p 0 + 1) → position_at n scratch (term_column aColumns a) (term_column bColumns b) < size
  pub fits : length a_rows ≤ room
