use mathlib.Core.Path.{ap, ◌∙◌}
use Rattle.c_replies.specs.Numbers.{bounds_numbers}
use Rattle.redstartgilt.proofs.whole_variances.redstartgilt_variance_bounds_whole.Goals as goal

pub returns : goal.returns
returns c = c.from.ensures ∙ ap bounds_numbers c.variance_bounds_whole.ensures
