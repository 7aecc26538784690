-- The requests of row pairs of two operators: every pair of a column of the one row and a column of the other, put in order.
-- Assumes nothing.
use Rattle.std.specs.Prelude.{ℕ, ◌+◌, ◌≤◌, ◌<◌, max, min, ◌≡◌, Bool, List, length}
use Rattle.std.proofs.Math.ListN.{get_or}
use Rattle.lists.specs.Test.{any, any_in}
use Rattle.refusal.specs.Bounds.{max_dimension}
use Rattle.pairs.specs.Pair.{pair_total, ordered}
use Rattle.pairs.specs.Scratch.{queue_start}
use Rattle.columns.specs.Columns.{start}
use Rattle.columns.specs.Operator.{operator_rows, OperatorRows}

-- x with the columns of the places from t to below f
abbrev pub with_columns : ℕ → List ℕ → ℕ → ℕ → ℕ → ℕ → Bool
with_columns x columns t f r c = any_in (λ b. ordered x (get_or columns b 0) r c) t f

-- the columns of the places from s to below e of the one with those from t to below f of the other
abbrev pub cross_set : List ℕ → List ℕ → ℕ → ℕ → ℕ → ℕ → ℕ → ℕ → Bool
cross_set aColumns bColumns s e t f r c = any_in (λ a. with_columns (get_or aColumns a 0) bColumns t f r c) s e

module _ (aStarts aColumns bStarts bColumns a_rows b_rows : List ℕ) where
  -- those of row pair p
  abbrev pub pair_set : ℕ → ℕ → ℕ → Bool
  pair_set p =
      cross_set aColumns bColumns (start aStarts (get_or a_rows p 0)) (start aStarts (get_or a_rows p 0 + 1)) (start bStarts (get_or b_rows p 0)) (start bStarts (get_or b_rows p 0 + 1))

  -- those of all row pairs
  unfoldable pub cross_requested : ℕ → ℕ → Bool
  cross_requested r c = any (λ p. pair_set p r c) (length a_rows)

-- two operators past their checks, and row pairs inside them
pub record OperatorPairs (n : ℕ) (aStarts aColumns : List ℕ) (aWeights : ℕ) (bStarts bColumns : List ℕ) (bWeights : ℕ) (a_rows b_rows : List ℕ) : Type 0 where
  pub first : OperatorRows n aStarts aColumns aWeights
  pub second : OperatorRows n bStarts bColumns bWeights
  pub paired : length a_rows ≡ length b_rows
  pub inside : (p : ℕ) → p < length a_rows → get_or a_rows p 0 < operator_rows aStarts
  pub inside₂ : (p : ℕ) → p < length a_rows → get_or b_rows p 0 < operator_rows bStarts

-- words for the marks of their pairs
pub record CrossInput (n : ℕ) (aStarts aColumns bStarts bColumns a_rows b_rows s : List ℕ) : Type 0 where
  pub small : n ≤ max_dimension
  pub pairs : OperatorPairs n aStarts aColumns (length aColumns) bStarts bColumns (length bColumns) a_rows b_rows
  pub room : queue_start n + pair_total n ≤ length s

-- ---- a pair is requested exactly if some row pair has it

module _ (aStarts aColumns bStarts bColumns a_rows b_rows : List ℕ) (r c : ℕ) where
  -- it is that of a place of row pair p's row of the one and a place of its row of the other, put in order
  pub record CrossRequest : Type 0 where
    pub p : ℕ
    pub a : ℕ
    pub b : ℕ
    pub inside : p < length a_rows
    pub from : start aStarts (get_or a_rows p 0) ≤ a
    pub below : a < start aStarts (get_or a_rows p 0 + 1)
    pub from₂ : start bStarts (get_or b_rows p 0) ≤ b
    pub below₂ : b < start bStarts (get_or b_rows p 0 + 1)
    pub row_is : r ≡ max (get_or aColumns a 0) (get_or bColumns b 0)
    pub column_is : c ≡ min (get_or aColumns a 0) (get_or bColumns b 0)
