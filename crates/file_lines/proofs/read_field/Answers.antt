use Rattle.file_lines.proofs.PlaceLaws.{no_field, field_at}
use Rattle.file_lines.proofs.read_field.Goals as goal

pub returns-then-number-at : goal.returns-then-number-at
returns-then-number-at c = no_field _ _ _ _ _ c.skip_blanks-at.ensures c.read_number-number.ensures c.if-number-at.true

pub returns : goal.returns
returns c = field_at _ _ _ _ _ c.skip_blanks-at.ensures c.read_number-number.ensures c.if-number-at.false
