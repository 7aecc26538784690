use Rattle.pairs.specs.Marks.{Added}
use Rattle.columns.specs.Kept.{nonzero}
use Rattle.pattern_lists.specs.PatternMarks.{column_set}
use Rattle.pattern_lists.proofs.marking.mark_column.Given as goal

abbrev pub invariant-loop-p : goal.invariant-loop-p
invariant-loop-p l = Added (column_set l.rows (nonzero l.values) l.c l.s l.p) l.initial.marks l.marks
