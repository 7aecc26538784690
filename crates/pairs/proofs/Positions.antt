-- Laws of specs/Positions.antt.
use Rattle.std.specs.Prelude.{ℕ, ◌+◌, min, max, ◌≡◌, List, get_or}
use Rattle.std.proofs.Common.{arith, ap, ap₂}
use Rattle.pairs.specs.Scratch.{queue_start}
use Rattle.pairs.specs.ColumnOrder.{column_place}
use Rattle.pairs.specs.Positions.{position_at, inverse_at}

-- the pair in either order
pub position_at_ordered : (n : ℕ) (s : List ℕ) (i k : ℕ) → position_at n s (max i k) (min i k) ≡ position_at n s i k
position_at_ordered n s i k =
    let e : max (max i k) (min i k) ≡ max i k = omega arith in
    let f : min (max i k) (min i k) ≡ min i k = omega arith in
    ap₂ (λ (r c : ℕ). get_or s (queue_start n + column_place n r c) 0) e f

pub inverse_at_ordered : {W : Type 0} (blank : W) (n : ℕ) (s : List ℕ) (inverse : List W) (i k : ℕ)
    → inverse_at blank n s inverse (max i k) (min i k) ≡ inverse_at blank n s inverse i k
inverse_at_ordered blank n s inverse i k = ap (λ (p : ℕ). get_or inverse p blank) (position_at_ordered n s i k)
