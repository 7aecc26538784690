use Rattle.requests_writer.proofs.ByteLaws.{wrote_byte}
use Rattle.requests_writer.proofs.numbers.write_byte.Goals as goal

pub returns : goal.returns
returns c = wrote_byte _ _ _ c.requires
