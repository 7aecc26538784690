-- Operators' rows, whose pairs can be read.
-- Assumes nothing.
use Prim.Native.Nat.{ℕ, ◌+◌, ◌≤◌, ◌<◌}
use native.Mathlib.Omega.{arith}
use mathlib.Core.List.{List}
use lib.ListN.{length, get_or}
use Rattle.columns.specs.Columns.{start}
use Rattle.columns.proofs.Factor.{starts_end}
use Rattle.columns.specs.Operator.{operator_rows}
use Rattle.operator_values.specs.Reading.{CrossValueInput, OperatorValuesInput, RowPairValuesInput}

-- one place of the first row
pub one_place : {n : ℕ} {aColumns : List ℕ} {aWeights : ℕ} {bColumns : List ℕ} {bWeights : ℕ} {scratch : List ℕ} {size s e t f : ℕ}
    → CrossValueInput n aColumns aWeights bColumns bWeights scratch size s e t f → (a : ℕ) → s ≤ a → a < e
    → CrossValueInput n aColumns aWeights bColumns bWeights scratch size a (a + 1) t f
one_place R a h l =
    record {
      small = R.small;
      ordered = omega arith;
      stored = omega (arith, R.stored);
      weighed = omega (arith, R.weighed);
      ordered₂ = R.ordered₂;
      stored₂ = R.stored₂;
      weighed₂ = R.weighed₂;
      inside = λ i p q. R.inside i (omega arith) (omega arith);
      reads = λ i j p q u v. R.reads i j (omega arith) (omega arith) u v;
    }

-- a row with itself
pub row_reading : {n : ℕ} {row_starts columns : List ℕ} {weights : ℕ} {scratch : List ℕ} {size room : ℕ}
    → OperatorValuesInput n row_starts columns weights scratch size room → (i : ℕ) → i < operator_rows row_starts
    → CrossValueInput n columns weights columns weights scratch size (start row_starts i) (start row_starts (i + 1)) (start row_starts i) (start row_starts (i + 1))
row_reading R i h =
    let O = R.operator in
    let end = starts_end O.starts_rise (i + 1) (omega arith) in
    record {
      small = R.small;
      ordered = O.starts_rise.rising i h;
      stored = end;
      weighed = omega (arith, O.weighed);
      ordered₂ = O.starts_rise.rising i h;
      stored₂ = end;
      weighed₂ = omega (arith, O.weighed);
      inside = λ a la ha. O.inside a (omega arith);
      reads = λ a b la ha lb hb. record {
        pair = record { small = R.small; left = O.inside a (omega arith); right = O.inside b (omega arith); room = R.words };
        known = R.known i a b h la ha lb hb;
      };
    }

-- a row pair
pub pair_reading : {n : ℕ} {aStarts aColumns : List ℕ} {aWeights : ℕ} {bStarts bColumns : List ℕ} {bWeights : ℕ} {a_rows b_rows scratch : List ℕ} {size room : ℕ}
    → RowPairValuesInput n aStarts aColumns aWeights bStarts bColumns bWeights a_rows b_rows scratch size room → (p : ℕ) → p < length a_rows
    → CrossValueInput n aColumns aWeights bColumns bWeights scratch size (start aStarts (get_or a_rows p 0)) (start aStarts (get_or a_rows p 0 + 1)) (start bStarts (get_or b_rows p 0)) (start bStarts (get_or b_rows p 0 + 1))
pair_reading {a_rows = a_rows} {b_rows = b_rows} R p h =
    let A = R.pairs.first in
    let B = R.pairs.second in
    let i< = R.pairs.inside p h in
    let j< = R.pairs.inside₂ p h in
    let end = starts_end A.starts_rise (get_or a_rows p 0 + 1) (omega arith) in
    let end₂ = starts_end B.starts_rise (get_or b_rows p 0 + 1) (omega arith) in
    record {
      small = R.small;
      ordered = A.starts_rise.rising (get_or a_rows p 0) i<;
      stored = end;
      weighed = omega (arith, A.weighed);
      ordered₂ = B.starts_rise.rising (get_or b_rows p 0) j<;
      stored₂ = end₂;
      weighed₂ = omega (arith, B.weighed);
      inside = λ a la ha. A.inside a (omega arith);
      reads = λ a b la ha lb hb. record {
        pair = record { small = R.small; left = A.inside a (omega arith); right = B.inside b (omega arith); room = R.words };
        known = R.known p a b h la ha lb hb;
      };
    }
