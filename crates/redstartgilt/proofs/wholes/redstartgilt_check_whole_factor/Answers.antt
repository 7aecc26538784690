use mathlib.Core.Path.{ap, ◌∙◌}
use Rattle.verdicts.specs.Number.{reply_number, checked_number-reply}
use Rattle.redstartgilt.proofs.wholes.redstartgilt_check_whole_factor.Goals as goal

pub returns : goal.returns
returns c = c.checked_number.ensures ∙ checked_number-reply c.check_whole_factor.result ∙ ap reply_number c.check_whole_factor.ensures
