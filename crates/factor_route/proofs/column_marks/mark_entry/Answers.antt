use Rattle.factor_route.proofs.MarkLaws.{entry_above, entry_zero, entry_kept}
use Rattle.factor_route.proofs.column_marks.mark_entry.Goals as goal

pub returns-then-r-c : goal.returns-then-r-c
returns-then-r-c c = entry_above _ _ _ _ _ _ _ c.if-r-c.true

pub returns-then-l : goal.returns-then-l
returns-then-l c = entry_zero _ _ _ _ _ _ _ c.if-l.true

pub returns : goal.returns
returns c = entry_kept _ _ _ _ _ _ _ c.if-r-c.false c.if-l.false
