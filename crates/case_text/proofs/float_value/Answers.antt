use lib.Ieee.{binary64, of_bits}
use mathlib.Core.Path.{ap, ◌∙◌}
use Rattle.case_text.proofs.float_value.Goals as goal

pub returns : goal.returns
returns c = c.of_bits.ensures ∙ ap (of_bits binary64) c.hexadecimal.ensures
