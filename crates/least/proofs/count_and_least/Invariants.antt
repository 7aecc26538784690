use Rattle.least.specs.Least.{negative, least_of}
use Rattle.lists.specs.Select.{tally}
use mathlib.Core.Path.{◌≡◌}
use Rattle.least.proofs.count_and_least.Given as goal

abbrev pub invariant-loop-x : goal.invariant-loop-x
invariant-loop-x l = (l.num_negative ≡ tally (negative l.values) 0 l.x-index) × (l.min_value ≡ least_of l.values l.x-index)
