-- Laws of specs/CrossRequests.antt.
use Rattle.std.specs.Prelude.{ℕ, ◌+◌, ◌≤◌, ◌<◌, max, min, ◌≡◌, refl, true, ◌↔◌, List, length}
use Rattle.std.proofs.Common.{arith, sym, subst₂}
use Rattle.std.proofs.Math.ListN.{get_or}
use Rattle.lists.specs.Test.{any-hit, any_found, any_in-hit, any_in_found}
use Rattle.pairs.specs.Pair.{ordered}
use Rattle.pairs.proofs.Pair.{ordered_is, is_ordered}
use Rattle.columns.specs.Columns.{start}
use Rattle.columns.proofs.Factor.{starts_end}
use Rattle.closed_set.specs.ClosedSet.{Ranged}
use Rattle.request_marks.specs.CrossRequests.{with_columns, pair_set, cross_requested, OperatorPairs, CrossRequest}

-- a place of the one row and one of the other make a request
pub cross_requested_lem : (aStarts aColumns bStarts bColumns a_rows b_rows : List ℕ) (p a b : ℕ) → p < length a_rows
    → start aStarts (get_or a_rows p 0) ≤ a → a < start aStarts (get_or a_rows p 0 + 1) → start bStarts (get_or b_rows p 0) ≤ b → b < start bStarts (get_or b_rows p 0 + 1)
    → cross_requested aStarts aColumns bStarts bColumns a_rows b_rows (max (get_or aColumns a 0) (get_or bColumns b 0)) (min (get_or aColumns a 0) (get_or bColumns b 0)) ≡ true
unfolding cross_requested
cross_requested_lem aStarts aColumns bStarts bColumns a_rows b_rows p a b l la ha lb hb =
    any-hit _ (length a_rows) p l (any_in-hit _ _ _ a la ha (any_in-hit _ _ _ b lb hb (is_ordered (get_or aColumns a 0) (get_or bColumns b 0) _ _ refl refl)))

-- ---- a pair is requested exactly if some row pair has it

module _ (aStarts aColumns bStarts bColumns a_rows b_rows : List ℕ) (r c : ℕ) where
  cross_found : cross_requested aStarts aColumns bStarts bColumns a_rows b_rows r c ≡ true → (CrossRequest aStarts aColumns bStarts bColumns a_rows b_rows r c)
  unfolding cross_requested
  cross_found e =
      let f = any_found (λ p. pair_set aStarts aColumns bStarts bColumns a_rows b_rows p r c) (length a_rows) e in
      let i = get_or a_rows f.0 0 in
      let j = get_or b_rows f.0 0 in
      let g = any_in_found (λ a. with_columns (get_or aColumns a 0) bColumns (start bStarts j) (start bStarts (j + 1)) r c) (start aStarts i) (start aStarts (i + 1)) f.2 in
      let h = any_in_found (λ b. ordered (get_or aColumns g.0 0) (get_or bColumns b 0) r c) (start bStarts j) (start bStarts (j + 1)) g.3 in
      let o = ordered_is (get_or aColumns g.0 0) (get_or bColumns h.0 0) r c h.3 in
      record {
        p = f.0;
        a = g.0;
        b = h.0;
        inside = f.1;
        from = g.1;
        below = g.2;
        from₂ = h.1;
        below₂ = h.2;
        row_is = o.0;
        column_is = o.1;
      }

  pub cross_requested_is : (cross_requested aStarts aColumns bStarts bColumns a_rows b_rows r c ≡ true) ↔ (CrossRequest aStarts aColumns bStarts bColumns a_rows b_rows r c)
  cross_requested_is = (
    cross_found,
    (λ Q. subst₂ (λ (x y : ℕ). cross_requested aStarts aColumns bStarts bColumns a_rows b_rows x y ≡ true) (sym Q.row_is) (sym Q.column_is)
        (cross_requested_lem aStarts aColumns bStarts bColumns a_rows b_rows Q.p Q.a Q.b Q.inside Q.from Q.below Q.from₂ Q.below₂)),
  )

-- requests of operators and row pairs past their checks are in order, and below n
module _ {n : ℕ} {aStarts aColumns : List ℕ} {aWeights : ℕ} {bStarts bColumns : List ℕ} {bWeights : ℕ} {a_rows b_rows : List ℕ}
    (O : OperatorPairs n aStarts aColumns aWeights bStarts bColumns bWeights a_rows b_rows) where
  columns_inside : {r c : ℕ} (Q : CrossRequest aStarts aColumns bStarts bColumns a_rows b_rows r c) → (get_or aColumns Q.a 0 < n) × (get_or bColumns Q.b 0 < n)
  columns_inside Q =
      let i< = O.inside Q.p Q.inside in
      let j< = O.inside₂ Q.p Q.inside in
      let end = starts_end O.first.starts_rise (get_or a_rows Q.p 0 + 1) (omega arith) in
      let end₂ = starts_end O.second.starts_rise (get_or b_rows Q.p 0 + 1) (omega arith) in
      (O.first.inside Q.a (omega (arith, Q.below)), O.second.inside Q.b (omega (arith, Q.below₂)))

  pub cross_requested_ranged : Ranged n (cross_requested aStarts aColumns bStarts bColumns a_rows b_rows)
  cross_requested_ranged = record {
    ordered = λ r c e. let Q = (cross_requested_is aStarts aColumns bStarts bColumns a_rows b_rows r c).0 e in omega (arith, Q.row_is, Q.column_is);
    inside = λ r c e.
        let Q = (cross_requested_is aStarts aColumns bStarts bColumns a_rows b_rows r c).0 e in
        let l = columns_inside Q in
        omega (arith, Q.row_is, l.0, l.1);
  }
