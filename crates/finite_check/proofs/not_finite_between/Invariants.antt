use mathlib.Core.Path.{◌≡◌}
use Rattle.lists.specs.Test.{any_in}
use Rattle.columns.specs.Kept.{not_finite}
use Rattle.finite_check.proofs.not_finite_between.Given as goal

abbrev pub invariant-loop-p : goal.invariant-loop-p
invariant-loop-p l = l.found ≡ any_in (not_finite l.values) l.s l.p
