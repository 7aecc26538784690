use native.Mathlib.Omega.{arith}
use Rattle.requests_writer.proofs.ByteLaws.{wrote_copied}
use Rattle.requests_writer.proofs.numbers.write_bytes.Goals as goal

pub returns : goal.returns
returns c = wrote_copied c.args.bytes.now _ c.args.place _ c.args.text.now c.copy_from_slice.ensures.after (omega arith)
