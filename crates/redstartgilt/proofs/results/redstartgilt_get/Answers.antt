use Rattle.c_replies.specs.Numbers.{entry_numbers}
use mathlib.Core.Path.{ap, ◌∙◌}
use Rattle.redstartgilt.proofs.results.redstartgilt_get.Goals as goal

pub returns : goal.returns
returns c = c.from.ensures ∙ ap entry_numbers c.get.ensures
