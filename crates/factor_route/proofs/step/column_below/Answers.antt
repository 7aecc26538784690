use lib.Ieee.{binary64, of_bits, nan}
use Rattle.scatter.proofs.Scatter.{steps_none, steps_next, step_sum_none, step_sum_next}
use Rattle.exact.specs.Multiple.{zero_float}
use Rattle.exact.specs.Exact.{floats}
use mathlib.Core.Path.{◌≡◌, refl, ◌∙◌}
use Rattle.factor_route.proofs.step.column_below.Goals as goal

-- the literal 0.0
zero_bits : of_bits binary64 0 ≡ zero_float
unfolding of_bits
zero_bits = refl

pub loop-p-init : goal.loop-p-init
loop-p-init c = (
  zero_bits ∙ step_sum_none floats _ _ nan _ _ _,
  steps_none floats _ _ nan _ _ _,
)

pub loop-p-preserved : goal.loop-p-preserved
loop-p-preserved c = let i = c.loop-p in (
  rw (step_sum_next floats _ _ nan, ← i.invariant.0, c.entry_below-z.ensures),
  rw (steps_next floats _ _ nan, ← i.invariant.1, c.entry_below-z.ensures),
)
