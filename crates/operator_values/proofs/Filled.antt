-- Laws of specs/Filled.antt.
use Rattle.std.specs.Prelude.{ℕ, ◌+◌, ◌≤◌, ◌<◌, max, min, ◌≡◌, Bool, true, List, length, get_or, Float}
use Rattle.std.proofs.Common.{arith, ap, ◌∙◌}
use Rattle.std.specs.Float.Ieee.{nan}
use Rattle.lists.specs.Overwrite.{overwrite, overwrite_at, overwrite-length}
use Rattle.lists.specs.Tabulate.{tabulate_cong}
use Rattle.refusal.specs.Bounds.{max_dimension}
use Rattle.pairs.specs.Pair.{pair_total}
use Rattle.pairs.specs.Scratch.{queue_start}
use Rattle.pairs.specs.ColumnOrder.{set_size}
use Rattle.pairs.specs.Positions.{position_at, inverse_at}
use Rattle.pairs.proofs.Positions.{inverse_at_ordered}
use Rattle.columns.specs.Columns.{start, value}
use Rattle.columns.proofs.Factor.{starts_end}
use Rattle.columns.specs.Operator.{operator_rows, OperatorRows}
use Rattle.closed_set.specs.ClosedSet.{Holds}
use Rattle.exact.specs.Exact.{floats}
use Rattle.entries.specs.Entries.{position, entry_values}
use Rattle.entries.proofs.Entries.{entry_values-length}
use Rattle.entries.specs.Position.{Positioned}
use Rattle.entries.proofs.Position.{position_below, entry_values_at}
use Rattle.takahashi.specs.Recurrence.{at}
use Rattle.request_marks.specs.OperatorRequests.{operator_requested}
use Rattle.request_marks.proofs.OperatorRequests.{places_requested}
use Rattle.quadratic_form.proofs.CrossValue.{cross_value_cong}
use Rattle.quadratic_form.specs.RowValue.{term_column, operator_values, row_pair_values}
use Rattle.request_marks.specs.CrossRequests.{cross_requested, OperatorPairs}
use Rattle.request_marks.proofs.CrossRequests.{cross_requested_lem}
use Rattle.operator_values.specs.Reading.{OperatorValuesInput, RowPairValuesInput}
use Rattle.operator_values.specs.Filled.{MemberPair}

-- a set of pairs, its members' positions, and a list with room for their entries
module _ (n : ℕ) (S : ℕ → ℕ → Bool) (Z : ℕ → ℕ → Float) (scratch : List ℕ) (values : List Float) (fits : set_size n S ≤ length values) (P : Positioned n S scratch) where
  abbrev values' : List Float
  values' = overwrite (entry_values n S Z) values

  -- its entry is within the list, and is the table's
  member_inside : (r c : ℕ) → c ≤ r → r < n → S r c ≡ true → position n S r c < set_size n S
  member_inside r c h l t = position_below n S r c n h l (omega arith) t

  read_is : (r c : ℕ) → (MemberPair n S Z scratch values fits P) r c → at (inverse_at nan n scratch values') r c ≡ at Z r c
  read_is r c M =
      inverse_at_ordered nan n scratch values' r c
      ∙ ap (λ (p : ℕ). get_or values' p nan) (P (max r c) (min r c) (omega arith) M.inside M.member)
      ∙ overwrite_at (entry_values n S Z) values (position n S (max r c) (min r c)) nan
      (omega (arith, entry_values-length n S Z, member_inside (max r c) (min r c) (omega arith) M.inside M.member))
      ∙ entry_values_at n S Z nan (max r c) (min r c) (omega arith) M.inside M.member

  read_known : (r c : ℕ) → (MemberPair n S Z scratch values fits P) r c → position_at n scratch r c < length values'
  read_known r c M =
      omega (
        arith,
        P (max r c) (min r c) (omega arith) M.inside M.member,
        member_inside (max r c) (min r c) (omega arith) M.inside M.member,
        entry_values-length n S Z,
        overwrite-length (entry_values n S Z) values (omega (arith, entry_values-length n S Z)),
      )

  -- ---- the set holds the pairs of an operator past its checks
  module _ (row_starts columns : List ℕ) (weights : List Float) (O : OperatorRows n row_starts columns (length weights)) (H : Holds (operator_requested row_starts columns) S) where
    row_pair_lem : (i a b : ℕ) → i < operator_rows row_starts → start row_starts i ≤ a → a < start row_starts (i + 1) → start row_starts i ≤ b → b < start row_starts (i + 1)
        → (MemberPair n S Z scratch values fits P) (term_column columns a) (term_column columns b)
    row_pair_lem i a b l la ha lb hb =
        let end = starts_end O.starts_rise (i + 1) (omega arith) in
        let r< = O.inside a (omega arith) in
        let c< = O.inside b (omega arith) in
        record { inside = omega arith; member = H _ _ (places_requested row_starts columns i a b l la ha lb hb) }

    -- they can be read
    pub filled_reading : (room : ℕ) → n ≤ max_dimension → queue_start n + pair_total n ≤ length scratch → operator_rows row_starts ≤ room
        → OperatorValuesInput n row_starts columns (length weights) scratch (length values') room
    filled_reading room small words h = record {
      small = small;
      operator = O;
      words = words;
      known = λ i a b l la ha lb hb. read_known _ _ (row_pair_lem i a b l la ha lb hb);
      fits = h;
    }

    -- so the values of all rows are the table's
    pub filled_values_lem : operator_values row_starts columns weights (inverse_at nan n scratch values') ≡ operator_values row_starts columns weights Z
    unfolding operator_values
    filled_values_lem =
        tabulate_cong _ _ (operator_rows row_starts)
        (λ i l.
        cross_value_cong floats (term_column columns) (term_column columns) (value weights) (value weights) (inverse_at nan n scratch values') Z
        (start row_starts i) (start row_starts (i + 1)) (start row_starts i) (start row_starts (i + 1))
        (λ a b la ha lb hb. read_is _ _ (row_pair_lem i a b l la ha lb hb)) (O.starts_rise.rising i l) (O.starts_rise.rising i l))

  -- ---- the set holds the pairs of row pairs of two operators past their checks
  module _ (aStarts aColumns : List ℕ) (aWeights : List Float) (bStarts bColumns : List ℕ) (bWeights : List Float) (a_rows b_rows : List ℕ)
      (O : OperatorPairs n aStarts aColumns (length aWeights) bStarts bColumns (length bWeights) a_rows b_rows)
      (H : Holds (cross_requested aStarts aColumns bStarts bColumns a_rows b_rows) S) where
    cross_pair : (p a b : ℕ) → p < length a_rows → start aStarts (get_or a_rows p 0) ≤ a → a < start aStarts (get_or a_rows p 0 + 1)
        → start bStarts (get_or b_rows p 0) ≤ b → b < start bStarts (get_or b_rows p 0 + 1) → (MemberPair n S Z scratch values fits P) (term_column aColumns a) (term_column bColumns b)
    cross_pair p a b l la ha lb hb =
        let i< = O.inside p l in
        let j< = O.inside₂ p l in
        let end = starts_end O.first.starts_rise (get_or a_rows p 0 + 1) (omega arith) in
        let end₂ = starts_end O.second.starts_rise (get_or b_rows p 0 + 1) (omega arith) in
        let r< = O.first.inside a (omega arith) in
        let c< = O.second.inside b (omega arith) in
        record { inside = omega arith; member = H _ _ (cross_requested_lem aStarts aColumns bStarts bColumns a_rows b_rows p a b l la ha lb hb) }

    pub filled_pairs_reading : (room : ℕ) → n ≤ max_dimension → queue_start n + pair_total n ≤ length scratch → length a_rows ≤ room
        → RowPairValuesInput n aStarts aColumns (length aWeights) bStarts bColumns (length bWeights) a_rows b_rows scratch (length values') room
    filled_pairs_reading room small words h = record {
      small = small;
      pairs = O;
      words = words;
      known = λ p a b l la ha lb hb. read_known _ _ (cross_pair p a b l la ha lb hb);
      fits = h;
    }

    pub filled_pairs_values : row_pair_values aStarts aColumns aWeights bStarts bColumns bWeights a_rows b_rows (inverse_at nan n scratch values')
        ≡ row_pair_values aStarts aColumns aWeights bStarts bColumns bWeights a_rows b_rows Z
    unfolding row_pair_values
    filled_pairs_values =
        tabulate_cong _ _ (length a_rows)
        (λ p l.
        cross_value_cong floats (term_column aColumns) (term_column bColumns) (value aWeights) (value bWeights) (inverse_at nan n scratch values') Z
        (start aStarts (get_or a_rows p 0)) (start aStarts (get_or a_rows p 0 + 1)) (start bStarts (get_or b_rows p 0)) (start bStarts (get_or b_rows p 0 + 1))
        (λ a b la ha lb hb. read_is _ _ (cross_pair p a b l la ha lb hb)) (O.first.starts_rise.rising _ (O.inside p l)) (O.second.starts_rise.rising _ (O.inside₂ p l)))
