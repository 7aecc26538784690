use mathlib.Core.Path.{ap, ◌∙◌}
use Rattle.c_replies.specs.Numbers.{whole_entry_numbers}
use Rattle.redstartgilt.proofs.wholes.redstartgilt_get_whole.Goals as goal

pub returns : goal.returns
returns c = c.from.ensures ∙ ap whole_entry_numbers c.get_whole.ensures
