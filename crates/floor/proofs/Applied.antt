-- The loop that applies a floor, value by value.
-- Assumes nothing.
use Prim.Native.Nat.{ℕ, ◌+◌, ◌<◌, ◌≤◌}
use native.Mathlib.Omega.{arith}
use mathlib.Core.Path.{◌≡◌, refl, sym, ap, ◌∙◌}
use mathlib.Core.Bool.{Bool, true, false, not, cond}
use mathlib.Core.List.{List}
use lib.ListN.{length, set}
use lib.Ieee.{Float, lt}
use Rattle.lists.specs.Sum.{bit}
use Rattle.lists.specs.Select.{tally, tally_none, tally_next}
use Rattle.lists.specs.Overwrite.{overwrite, filled, filled_none, filled_more}
use Rattle.columns.specs.Columns.{value}
use Rattle.floor.specs.Floored.{floored_value, floored, hit, floor_hits}

-- after the first i values
pub record Applied (floor : Float) (values old output : List Float) (hits i : ℕ) : Type 0 where
  pub listed : output ≡ filled (λ k. floored_value floor (value values k)) i old
  pub counted : hits ≡ tally (hit floor values) 0 i

module _ (floor : Float) (values old : List Float) where
  pub applied_none : Applied floor values old old 0 0
  applied_none = record {
    listed = filled_none _ old;
    counted = sym (tally_none (hit floor values) 0);
  }

  module _ {output : List Float} {hits i : ℕ} (A : Applied floor values old output hits i) (more : i < length values) (room : length values ≤ length old) where
    next : (b : Bool) (new : Float) (m : ℕ) → lt floor (value values i) ≡ b → new ≡ cond b (value values i) floor → m ≡ hits + bit (not b)
        → Applied floor values old (set output i new) m (i + 1)
    next b new m e p q = record {
      listed = ap (set output i) (p ∙ rw e)
          ∙ ap (λ (x : List Float). set x i (floored_value floor (value values i))) A.listed
          ∙ filled_more (λ k. floored_value floor (value values k)) old i (omega arith);
      counted = q ∙ ap (λ (n : ℕ). n + bit (not b)) A.counted ∙ ap (λ (d : Bool). tally (hit floor values) 0 i + bit (not d)) (sym e)
          ∙ sym (tally_next (hit floor values) 0 i (omega arith));
    }

    -- a value above the floor stays
    pub applied_above : lt floor (value values i) ≡ true → Applied floor values old (set output i (value values i)) hits (i + 1)
    applied_above e = next true (value values i) hits e refl (omega arith)

    -- any other becomes the floor, and counts
    pub applied_hit : lt floor (value values i) ≡ false → Applied floor values old (set output i floor) (hits + 1) (i + 1)
    applied_hit e = next false floor (hits + 1) e refl refl

  pub applied_all : {output : List Float} {hits i : ℕ} → Applied floor values old output hits i → i ≡ length values
      → (hits ≡ floor_hits floor values) × (output ≡ overwrite (floored floor values) old)
  unfolding filled
  applied_all {output} {hits} {i} A e = (
    A.counted ∙ ap (tally (hit floor values) 0) e,
    A.listed ∙ ap (λ (k : ℕ). filled (λ k. floored_value floor (value values k)) k old) e,
  )
