use mathlib.Core.Path.{ap, ◌∙◌}
use Rattle.c_replies.specs.Numbers.{entry_numbers}
use Rattle.redstartgilt.proofs.results.redstartgilt_get_well_formed.Goals as goal

pub returns : goal.returns
returns c = c.from.ensures ∙ ap entry_numbers c.get_well_formed.ensures
