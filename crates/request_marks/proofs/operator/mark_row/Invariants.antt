use Rattle.pattern_lists.specs.PatternMarks.{row_set}
use Rattle.marked_pairs.specs.MarkedPairs.{AlsoMarked}
use Rattle.request_marks.proofs.operator.mark_row.Given as goal

abbrev pub invariant-loop-a : goal.invariant-loop-a
invariant-loop-a l = AlsoMarked l.n (row_set l.columns l.s l.a) l.initial.scratch l.scratch l.count
