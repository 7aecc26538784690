-- Whole numbers held to 2 ^ 53 in size, up to which f64 has each of them: whether a number, or a product or a sum of a running sum, is beyond it.
-- Assumes nothing.
use Rattle.std.specs.Prelude.{ℕ, ◌^◌, Bool, false, cond, ◌||◌, List, [], ◌∷◌, ltb, ℤ, pos, nat_abs, ◌+ℤ◌, ◌*ℤ◌}
use Rattle.refusal.specs.Steps.{Reply, refused, answered}
use Rattle.takahashi.specs.Recurrence.{Entry}

-- z is beyond 2 ^ 53 in size; 2 ^ 53 and its negative are not
abbrev pub beyond : ℤ → Bool
beyond z = ltb (2 ^ 53) (nat_abs z)

-- a product l * r k of the running sum from S, or the sum after an addition, is beyond 2 ^ 53
abbrev pub sum_exceeds : (ℕ → ℤ) → ℤ → List (Entry ℤ) → Bool
sum_exceeds r S [] = false
sum_exceeds r S (e ∷ es) =
    beyond (e.value *ℤ r e.row) || (beyond (S +ℤ e.value *ℤ r e.row) || sum_exceeds r (S +ℤ e.value *ℤ r e.row) es)

-- the sum with one product more, or 20 where the product or the sum is beyond 2 ^ 53; 20 stays 20
abbrev pub plus_product : Reply ℤ → ℤ → ℤ → Reply ℤ
plus_product (refused k) l z = refused k
plus_product (answered S) l z = cond (beyond (l *ℤ z)) (refused 20) (cond (beyond (S +ℤ l *ℤ z)) (refused 20) (answered (S +ℤ l *ℤ z)))

-- the running sum from S, or 20 where one of its products or sums is beyond 2 ^ 53
abbrev pub checked_run : (ℕ → ℤ) → Reply ℤ → List (Entry ℤ) → Reply ℤ
checked_run r S [] = S
checked_run r S (e ∷ es) = checked_run r (plus_product S e.value (r e.row)) es

-- from 0
abbrev pub checked_dot : (ℕ → ℤ) → List (Entry ℤ) → Reply ℤ
checked_dot r es = checked_run r (answered (pos 0)) es
