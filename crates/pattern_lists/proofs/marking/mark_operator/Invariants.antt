use Rattle.pairs.specs.Marks.{Added}
use Rattle.pattern_lists.specs.PatternMarks.{rows_set}
use Rattle.pattern_lists.proofs.marking.mark_operator.Given as goal

abbrev pub invariant-loop-i : goal.invariant-loop-i
invariant-loop-i l = Added (rows_set l.row_starts l.columns l.i) l.initial.marks l.marks
