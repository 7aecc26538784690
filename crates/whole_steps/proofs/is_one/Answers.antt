use Rattle.whole_steps.specs.Machine.{bits_one}
use Rattle.whole_steps.proofs.is_one.Goals as goal

pub returns : goal.returns
returns c = bits_one c.args.z c.ranges.z
