use native.Mathlib.Omega.{arith}
use Rattle.file_lines.proofs.PlainLaws.{plain_line}
use Rattle.file_lines.proofs.plain_pair.Goals as goal

pub returns : goal.returns
returns c = plain_line _ _ _ _ _ _ (omega (arith, c.if-text-p-lt10.false, c.requires)) c.few_digits-a.ensures c.if-a-p.false c.if-text-a-ne32.false
    c.few_digits-b.ensures c.if-b-from.false c.if-text-b-ne10.false
