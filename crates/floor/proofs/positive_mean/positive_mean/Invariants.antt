use Rattle.floor.specs.PositiveMean.{positive_count, positive_sum}
use mathlib.Core.Path.{◌≡◌}
use Rattle.floor.proofs.positive_mean.positive_mean.Given as goal

abbrev pub invariant-loop-x : goal.invariant-loop-x
invariant-loop-x l = (l.count ≡ positive_count l.values l.x-index) × (l.sum ≡ positive_sum l.values l.x-index)
