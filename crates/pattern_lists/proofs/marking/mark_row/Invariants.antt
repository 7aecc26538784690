use Rattle.pairs.specs.Marks.{Added}
use Rattle.pattern_lists.specs.PatternMarks.{row_set}
use Rattle.pattern_lists.proofs.marking.mark_row.Given as goal

abbrev pub invariant-loop-a : goal.invariant-loop-a
invariant-loop-a l = Added (row_set l.columns l.s l.a) l.initial.marks l.marks
