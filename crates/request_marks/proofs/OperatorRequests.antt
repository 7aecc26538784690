-- Laws of specs/OperatorRequests.antt.
use Rattle.std.specs.Prelude.{ℕ, ◌+◌, ◌≤◌, ◌<◌, max, min, ◌≡◌, Bool, true, ◌&&◌, ◌⊎◌, List, leb, eqb, get_or}
use Rattle.std.proofs.Common.{arith, ap, inl, inr, le-leb, leb-true, eqb-true, eq-eqb}
use Rattle.std.proofs.Math.Decide.{dec_le}
use Rattle.lists.specs.Test.{any-hit, any_found, any_in-hit, any_in_found, and_left, and_right, and_both}
use Rattle.columns.specs.Columns.{start}
use Rattle.columns.proofs.Factor.{starts_end}
use Rattle.columns.specs.Operator.{operator_rows, OperatorRows}
use Rattle.closed_set.specs.ClosedSet.{Ranged}
use Rattle.columns.specs.OperatorPair.{occurs, row_pair, operator_pair}
use Rattle.request_marks.specs.OperatorRequests.{operator_requested}

-- of pairs in order they are the operator's pairs
pub operator_requested_pair : (row_starts columns : List ℕ) (r c : ℕ) → c ≤ r → operator_requested row_starts columns r c ≡ operator_pair row_starts columns r c
operator_requested_pair row_starts columns r c h = ap (λ (b : Bool). b && operator_pair row_starts columns r c) (le-leb c r h)

-- they are in order, and below n
pub operator_requested_ranged : {n : ℕ} {row_starts columns : List ℕ} {weights : ℕ} → OperatorRows n row_starts columns weights
    → Ranged n (operator_requested row_starts columns)
unfolding operator_pair
operator_requested_ranged {n} {row_starts} {columns} O = record {
  ordered = λ r c e. leb-true c r (and_left (leb c r) _ e);
  inside = λ r c e.
      let f = any_found (row_pair row_starts columns r c) (operator_rows row_starts) (and_right (leb c r) (operator_pair row_starts columns r c) e) in
      let s = start row_starts f.0 in
      let t = start row_starts (f.0 + 1) in
      let g = any_in_found (λ p. eqb (get_or columns p 0) r) s t (and_left (occurs columns s t r) (occurs columns s t c) f.2) in
      let end = starts_end O.starts_rise (f.0 + 1) (omega (arith, f.1)) in
      omega (arith, eqb-true (get_or columns g.0 0) r g.3, O.inside g.0 (omega (arith, g.2)));
}

-- two places of one row make a request
pub places_requested : (row_starts columns : List ℕ) (i a b : ℕ) → i < operator_rows row_starts → start row_starts i ≤ a → a < start row_starts (i + 1) → start row_starts i ≤ b
    → b < start row_starts (i + 1) → operator_requested row_starts columns (max (get_or columns a 0) (get_or columns b 0)) (min (get_or columns a 0) (get_or columns b 0)) ≡ true
unfolding operator_pair
places_requested row_starts columns i a b l la ha lb hb =
    and_both _ _ (le-leb low high (omega arith))
    (any-hit (row_pair row_starts columns high low) (operator_rows row_starts) i l
    (elim (dec_le y x) [
      | yes q ↦ and_both _ _ (is high (inl (omega arith))) (is low (inr (omega arith)))
      | no q ↦ and_both _ _ (is high (inr (omega arith))) (is low (inl (omega arith)))
    ]))
  where
    x : ℕ
    x = get_or columns a 0

    y : ℕ
    y = get_or columns b 0

    high : ℕ
    high = max x y

    low : ℕ
    low = min x y

    is : (k : ℕ) → (x ≡ k) ⊎ (y ≡ k) → occurs columns (start row_starts i) (start row_starts (i + 1)) k ≡ true
    is k (inl e) = any_in-hit _ _ _ a la ha (eq-eqb x k e)
    is k (inr e) = any_in-hit _ _ _ b lb hb (eq-eqb y k e)
