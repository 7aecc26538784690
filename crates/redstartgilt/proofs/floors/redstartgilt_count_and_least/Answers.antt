use Rattle.c_replies.specs.Numbers.{least_numbers}
use mathlib.Core.Path.{ap, ◌∙◌}
use Rattle.redstartgilt.proofs.floors.redstartgilt_count_and_least.Goals as goal

pub returns : goal.returns
returns c = c.from.ensures ∙ ap least_numbers c.count_and_least.ensures
