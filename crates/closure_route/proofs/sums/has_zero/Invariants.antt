use Rattle.lists.specs.Test.{any_in}
use Rattle.closure_route.specs.Rest.{zero_at}
use mathlib.Core.Path.{◌≡◌}
use Rattle.closure_route.proofs.sums.has_zero.Given as goal

abbrev pub invariant-loop-p : goal.invariant-loop-p
invariant-loop-p l = l.found ≡ any_in (zero_at l.values) l.s l.p
