-- Laws of specs/Marked.antt.
use Rattle.std.specs.Prelude.{ℕ, ◌≤◌, ◌<◌, ◌≡◌, eqb}
use Rattle.std.proofs.Common.{arith, ap₂, eqb-true, eq-eqb}
use Rattle.lists.specs.Test.{same_truth}
use Rattle.pairs.specs.Pair.{ordered}
use Rattle.pairs.proofs.Pair.{ordered_is, is_ordered}
use Rattle.pairs.specs.ColumnOrder.{column_place}
use Rattle.pairs.proofs.ColumnOrder.{column_place_same}

-- a place is one pair's
pub place_ordered : (n a b r c : ℕ) → b ≤ a → a < n → c ≤ r → r < n → eqb (column_place n a b) (column_place n r c) ≡ ordered a b r c
place_ordered n a b r c low high h m =
    same_truth _ _
    (λ e. let q = column_place_same n a b r c low high h m (eqb-true _ _ e) in is_ordered a b r c (omega (arith, low, q.0)) (omega (arith, low, q.1)))
    (λ e.
    let q = ordered_is a b r c e in
    let x : a ≡ r = omega (arith, low, q.0) in
    let y : b ≡ c = omega (arith, low, q.1) in
    eq-eqb _ _ (ap₂ (column_place n) x y))
