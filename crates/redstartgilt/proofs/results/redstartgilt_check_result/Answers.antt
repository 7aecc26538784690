use mathlib.Core.Path.{ap, ◌∙◌}
use Rattle.verdicts.specs.Number.{reply_number, checked_number-reply}
use Rattle.redstartgilt.proofs.results.redstartgilt_check_result.Goals as goal

pub returns : goal.returns
returns c = c.checked_number.ensures ∙ checked_number-reply c.check_result.result ∙ ap reply_number c.check_result.ensures
