use mathlib.Core.Path.{sym}
use Rattle.factor_check.proofs.rows.column_unsorted.Goals as goal

pub returns : goal.returns
returns c = rw c.descents.ensures (sym c.start_descents.ensures)
