use Rattle.factor_route.specs.ColumnMarks.{desc_between, ColumnMarked}
use Rattle.factor_route.proofs.column_marks.mark_column.Given as goal

abbrev pub invariant-loop-p : goal.invariant-loop-p
invariant-loop-p l = ColumnMarked (desc_between l.rows l.values l.c l.s l.p) l.m l.initial.marker l.initial.weights l.initial.sums l.marker l.weights l.sums
