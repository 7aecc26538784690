-- Laws of specs/DiagonalMarks.antt.
use Rattle.std.specs.Prelude.{ℕ, ◌<◌, ◌≡◌, refl, true, ◌&&◌, eqb, ltb}
use Rattle.std.proofs.Common.{arith, ap₂, eqb-true, eq-eqb, ltb-true, lt-ltb}
use Rattle.lists.specs.Test.{and_left, and_right}
use Rattle.closed_set.specs.ClosedSet.{Ranged}
use Rattle.request_marks.specs.DiagonalMarks.{diagonal_pairs}

pub diagonal_requested : (n j : ℕ) → j < n → diagonal_pairs n j j ≡ true
diagonal_requested n j l = ap₂ ◌&&◌ (lt-ltb j n l) (eq-eqb j j refl)

pub diagonals_ranged : (n : ℕ) → Ranged n (diagonal_pairs n)
diagonals_ranged n = record {
  ordered = λ r c e. let q = eqb-true r c (and_right (ltb r n) (eqb r c) e) in omega arith;
  inside = λ r c e. ltb-true r n (and_left (ltb r n) (eqb r c) e);
}
