use mathlib.Core.Path.{ap₂, ◌∙◌}
use Rattle.c_replies.specs.Numbers.{counted_numbers}
use Rattle.redstartgilt.proofs.results.redstartgilt_get_counted.Goals as goal

pub returns : goal.returns
returns c = c.from.ensures ∙ ap₂ counted_numbers c.get_counted.ensures.result_value c.get_counted.ensures.looks_value
