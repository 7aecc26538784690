use Rattle.floor.specs.declared.variance_floor.VarianceFloor.{VarianceFloor}
use Rattle.floor.specs.VarianceFloor.{floor_of}
use lib.Ieee.{Float, binary64, mul}
use mathlib.Core.Path.{ap, sym, ◌∙◌}
use Rattle.floor.proofs.variance_floor.floor_of.Goals as goal

pub returns-in-PositiveMean : goal.returns-in-PositiveMean
returns-in-PositiveMean c = let v = c.args.values.now in
    ap (λ (x : Float). mul binary64 x c.in-PositiveMean.scale) c.mean_level.ensures ∙ sym (ap (λ (f : VarianceFloor). floor_of f v) c.in-PositiveMean.is)
