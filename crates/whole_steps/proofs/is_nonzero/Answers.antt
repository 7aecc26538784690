use mathlib.Core.Path.{ap}
use mathlib.Core.Bool.{not}
use Rattle.whole_steps.specs.Machine.{bits_zero}
use Rattle.whole_steps.proofs.is_nonzero.Goals as goal

pub returns : goal.returns
returns c = ap not (bits_zero c.args.z c.ranges.z)
