use Rattle.marked_pairs.specs.MarkedPairs.{AlsoMarked}
use Rattle.pattern_lists.specs.PatternMarks.{rows_set}
use Rattle.request_marks.proofs.operator.mark_operator_pairs.Given as goal

abbrev pub invariant-loop-i : goal.invariant-loop-i
invariant-loop-i l = AlsoMarked l.n (rows_set l.row_starts l.columns l.i) l.initial.scratch l.scratch l.count
