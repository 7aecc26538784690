-- When a floor is applied.
-- Assumes nothing.
use Rattle.std.specs.Prelude.{ℕ, ◌<◌, ◌≤◌, ◌≡◌, true, false, not, List, length, Float}
use Rattle.std.proofs.Common.{ap, ltb-false, le-ltb}
use Rattle.std.proofs.lemmas.Bool.{not-false}
use Rattle.std.specs.Float.Ieee.Scale.{finite}
use Rattle.lists.specs.Test.{any_below, any_all}
use Rattle.refusal.specs.Bounds.{max_entries}
use Rattle.refusal.specs.Steps.{Passed}
use Rattle.refusal.proofs.Steps.{passed_clear, clear_passed}
use Rattle.columns.specs.Columns.{value}
use Rattle.columns.specs.Kept.{not_finite}
use Rattle.floor.specs.declared.variance_floor.VarianceFloor.{VarianceFloor}
use Rattle.floor.specs.VarianceFloor.{bad_scale, floor_steps}

pub record FloorAccepted (floor : VarianceFloor) (values : List Float) (room : ℕ) : Type 0 where
  pub small : length values ≤ max_entries
  pub all_finite : (i : ℕ) → i < length values → finite (value values i) ≡ true
  pub good_scale : bad_scale floor ≡ false
  pub fits : length values ≤ room

module _ (floor : VarianceFloor) (values : List Float) (room : ℕ) where
  pub floor_accepted : Passed (floor_steps floor values room) → FloorAccepted floor values room
  floor_accepted p =
      let c = passed_clear (floor_steps floor values room) p in
      record {
        small = ltb-false _ _ c.0;
        all_finite = λ i l. not-false _ (any_below (not_finite values) (length values) i c.1.0 l);
        good_scale = c.1.1.0;
        fits = ltb-false _ _ c.1.1.1.0;
      }

  pub accepts : FloorAccepted floor values room → Passed (floor_steps floor values room)
  accepts A =
      clear_passed (floor_steps floor values room) (
        le-ltb _ _ A.small,
        (any_all (not_finite values) (length values) (λ i l. ap not (A.all_finite i l)), (A.good_scale, (le-ltb _ _ A.fits, tt))),
      )
