-- Diagonals, requested one after the other.
-- Assumes nothing.
use Prim.Native.Nat.{ℕ, ◌+◌, ◌<◌}
use native.Mathlib.Omega.{arith}
use native.Mathlib.Decide.{dec_lt}
use mathlib.Core.Path.{◌≡◌, ap, ap₂}
use mathlib.Core.Bool.{Bool, true, false, ◌&&◌, ◌||◌}
use mathlib.Core.Logic.{⊎_elim}
use lib.Dec.{eqb, ltb}
use borrow.Author.Tests.{eqb-true, eq-eqb, ltb-true, lt-ltb, le-ltb}
use Rattle.lists.specs.Test.{and_left, and_right, or_cases, or_left, or_right, same_truth}
use Rattle.pairs.specs.Pair.{ordered}
use Rattle.pairs.proofs.Pair.{ordered_is, is_ordered}
use Rattle.request_marks.specs.DiagonalMarks.{diagonal_pairs}

-- no diagonal, and one more
pub diagonals_none : (r c : ℕ) → diagonal_pairs 0 r c ≡ false
diagonals_none r c = ap (λ (b : Bool). b && eqb r c) (le-ltb r 0 (omega arith))

pub diagonals_next : (i r c : ℕ) → (diagonal_pairs i r c || ordered i i r c) ≡ diagonal_pairs (i + 1) r c
diagonals_next i r c = same_truth _ _ to from
  where
    both : r < i + 1 → r ≡ c → diagonal_pairs (i + 1) r c ≡ true
    both l e = ap₂ ◌&&◌ (lt-ltb r (i + 1) l) (eq-eqb r c e)

    to : (diagonal_pairs i r c || ordered i i r c) ≡ true → diagonal_pairs (i + 1) r c ≡ true
    to q =
        ⊎_elim
        (λ p. let l = ltb-true r i (and_left (ltb r i) (eqb r c) p) in both (omega arith) (eqb-true r c (and_right (ltb r i) (eqb r c) p)))
        (λ p. let o = ordered_is i i r c p in both (omega arith) (omega arith))
        (or_cases (diagonal_pairs i r c) _ q)

    from : diagonal_pairs (i + 1) r c ≡ true → (diagonal_pairs i r c || ordered i i r c) ≡ true
    from q =
        let l = ltb-true r (i + 1) (and_left (ltb r (i + 1)) (eqb r c) q) in
        let e = eqb-true r c (and_right (ltb r (i + 1)) (eqb r c) q) in
        elim (dec_lt r i) [
          | yes m ↦ or_left (diagonal_pairs i r c) _ (ap₂ ◌&&◌ (lt-ltb r i m) (eq-eqb r c e))
          | no m ↦ or_right (diagonal_pairs i r c) _ (is_ordered i i r c (omega arith) (omega arith))
        ]
