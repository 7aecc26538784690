-- What a floor does to the values.
-- Assumes nothing.
use Rattle.std.specs.Prelude.{ℕ, zero, suc, ◌+◌, ◌<◌, ◌≡◌, refl, Bool, true, false, not, cond, List, ◌⊎◌, length, get_or, Float}
use Rattle.std.proofs.Common.{arith, add-one, ap, ◌∙◌, inl, inr}
use Rattle.std.proofs.lemmas.Bool.{not-true}
use Rattle.std.specs.Float.Ieee.{lt}
use Rattle.lists.specs.Sum.{bit}
use Rattle.lists.specs.Select.{tally, tally_none, tally_next, select, select_at, select_holds}
use Rattle.lists.specs.Tabulate.{tabulate-length, tabulate_at}
use Rattle.columns.specs.Columns.{value}
use Rattle.float_order.specs.Order.{lt_irreflexive, lt_asymmetric}
use Rattle.floor.specs.Floored.{floored_value, floored, hit, floor_hits}

-- ---- one value

-- above the floor it stays
pub floored_value_above : (floor x : Float) → lt floor x ≡ true → floored_value floor x ≡ x
floored_value_above floor x e = rw e

-- and else becomes the floor
pub floored_value-hit : (floor x : Float) → lt floor x ≡ false → floored_value floor x ≡ floor
floored_value-hit floor x e = rw e

-- so it is never below the floor
pub floored_value-not_below : (floor x : Float) → lt (floored_value floor x) floor ≡ false
floored_value-not_below floor x = go (lt floor x) refl
  where
    go : (b : Bool) → lt floor x ≡ b → lt (cond b x floor) floor ≡ false
    go true e = lt_asymmetric floor x e
    go false e = lt_irreflexive floor

-- ---- the list

one_of_two : (b : Bool) → bit (not b) + bit b ≡ 1
one_of_two true = refl
one_of_two false = refl

-- a test fails or passes at each place
tally_parts : (test : ℕ → Bool) (k : ℕ) → tally (λ i. not (test i)) 0 k + tally test 0 k ≡ k
tally_parts test zero = omega (arith, tally_none (λ i. not (test i)) 0, tally_none test 0)
tally_parts test (suc k) =
    rw (← add-one)
    (omega (
      arith,
      tally_next (λ i. not (test i)) 0 k (omega arith),
      tally_next test 0 k (omega arith),
      one_of_two (test k),
      tally_parts test k,
    ))

module _ (floor : Float) (values : List Float) where
  pub floored-length : length (floored floor values) ≡ length values
  floored-length = tabulate-length _ (length values)

  pub floored_at : (i : ℕ) → i < length values → value (floored floor values) i ≡ floored_value floor (value values i)
  floored_at i l = tabulate_at _ (length values) i _ l

  -- each value left is the value lent, or the floor
  pub floored-either : (i : ℕ) → i < length values → (value (floored floor values) i ≡ value values i) ⊎ (value (floored floor values) i ≡ floor)
  floored-either i l = go (lt floor (value values i)) refl
    where
      go : (b : Bool) → lt floor (value values i) ≡ b → (value (floored floor values) i ≡ value values i) ⊎ (value (floored floor values) i ≡ floor)
      go true e = inl (floored_at i l ∙ floored_value_above floor (value values i) e)
      go false e = inr (floored_at i l ∙ floored_value-hit floor (value values i) e)

  -- none is below the floor
  pub floored-not_below : (i : ℕ) → i < length values → lt (value (floored floor values) i) floor ≡ false
  floored-not_below i l = ap (λ (x : Float). lt x floor) (floored_at i l) ∙ floored_value-not_below floor (value values i)

  -- the places of the hits, ascending
  abbrev pub hit_places : List ℕ
  hit_places = select (hit floor values) 0 (length values)

  -- there are as many as hits, and each holds the floor afterwards
  pub hit_places_at : (j : ℕ) → j < floor_hits floor values
      → (get_or hit_places j 0 < length values) × (value (floored floor values) (get_or hit_places j 0) ≡ floor)
  hit_places_at j l =
      let p = select_at (hit floor values) 0 (length values) j (omega arith) l in
      (p.below, floored_at (get_or hit_places j 0) p.below ∙ floored_value-hit floor (value values (get_or hit_places j 0)) (not-true _ p.passes))

  -- every value that is not above the floor is one
  pub hit_places_holds : (i : ℕ) → i < length values → lt floor (value values i) ≡ false
      → (j : ℕ) × (j < floor_hits floor values) × (get_or hit_places j 0 ≡ i)
  hit_places_holds i l e = select_holds (hit floor values) 0 (length values) i (omega arith) l (ap not e)

  -- the other values are those above the floor
  pub floor_hits_rest : floor_hits floor values + tally (λ i. lt floor (value values i)) 0 (length values) ≡ length values
  floor_hits_rest = tally_parts (λ i. lt floor (value values i)) (length values)
