-- No bound sees that a number is cut off.
-- Assumes nothing.
use Prim.Native.Nat.{ℕ, ◌<◌}
use native.Mathlib.Omega.{arith}
use mathlib.Core.Path.{◌≡◌, refl, ap₂, ◌∙◌}
use mathlib.Core.Bool.{Bool, true, false, ◌||◌}
use lib.Dec.{eqb, ltb}
use borrow.Author.Tests.{eqb-true, eq-eqb, ltb-true, ltb-false, lt-ltb}
use Rattle.lists.specs.Test.{or_neither_right, same_truth}
use Rattle.matrix_market.specs.File.{outside_index, outside_pair}
use Rattle.file_lines.specs.Scan.{cut}

module _ (n : ℕ) (small : n < 4294967295) where
  pub above_cut : (x : ℕ) → ltb n (cut x) ≡ ltb n x
  above_cut x = same_truth _ _ (λ e. lt-ltb n x (omega (arith, ltb-true n (cut x) e))) (λ e. lt-ltb n (cut x) (omega (arith, ltb-true n x e)))

  outside-cut : (x : ℕ) → outside_index n (cut x) ≡ outside_index n x
  outside-cut x =
      ap₂ ◌||◌
      (same_truth (eqb (cut x) 0) (eqb x 0) (λ e. eq-eqb x 0 (omega (arith, eqb-true (cut x) 0 e))) (λ e. eq-eqb (cut x) 0 (omega (arith, eqb-true x 0 e))))
      (above_cut x)

  inside_cut : (x : ℕ) → outside_index n x ≡ false → cut x ≡ x
  inside_cut x e = omega (arith, ltb-false n x (or_neither_right (eqb x 0) (ltb n x) e))

  outside_of : (a b : ℕ) (e f : Bool) → outside_index n a ≡ e → outside_index n b ≡ f → (e || (f || ltb (cut a) (cut b))) ≡ (e || (f || ltb a b))
  outside_of a b true f d g = refl
  outside_of a b false true d g = refl
  outside_of a b false false d g = ap₂ ltb (inside_cut a d) (inside_cut b g)

  pub outside_pair-cut : (a b : ℕ) → outside_pair n (cut a) (cut b) ≡ outside_pair n a b
  unfolding outside_pair
  outside_pair-cut a b =
      ap₂ (λ (e f : Bool). e || (f || ltb (cut a) (cut b))) (outside-cut a) (outside-cut b)
      ∙ outside_of a b (outside_index n a) (outside_index n b) refl refl
