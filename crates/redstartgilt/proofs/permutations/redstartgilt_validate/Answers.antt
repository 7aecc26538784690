use Rattle.verdicts.specs.Number.{reply_number, checked_number-reply}
use mathlib.Core.Path.{ap, ◌∙◌}
use Rattle.redstartgilt.proofs.permutations.redstartgilt_validate.Goals as goal

pub returns : goal.returns
returns c = c.checked_number.ensures ∙ checked_number-reply c.validate.result ∙ ap reply_number c.validate.ensures
