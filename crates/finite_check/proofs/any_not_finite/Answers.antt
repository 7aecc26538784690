use mathlib.Core.Path.{◌∙◌}
use Rattle.lists.specs.Test.{any_in_zero}
use Rattle.finite_check.proofs.any_not_finite.Goals as goal

pub returns : goal.returns
returns c = c.not_finite_between.ensures ∙ any_in_zero _ _
