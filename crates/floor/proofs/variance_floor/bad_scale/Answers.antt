use Rattle.floor.specs.VarianceFloor.{bad_scale}
use Rattle.columns.specs.Kept.{f0}
use lib.Ieee.{lt}
use mathlib.Core.Bool.{Bool, not, ◌||◌}
use mathlib.Core.Path.{ap, sym, ◌∙◌}
use Rattle.floor.proofs.variance_floor.bad_scale.Goals as goal

pub returns-then-is_finite : goal.returns-then-is_finite
returns-then-is_finite c = sym (ap bad_scale c.in-PositiveMean.is ∙ ap (λ (b : Bool). not b || lt c.in-PositiveMean.scale f0) (sym c.is_finite.ensures ∙ c.if-is_finite.true))
