use Rattle.marked_pairs.specs.MarkedPairs.{AlsoMarked}
use Rattle.request_marks.specs.CrossRequests.{with_columns}
use Rattle.request_marks.proofs.cross.mark_with.Given as goal

abbrev pub invariant-loop-b : goal.invariant-loop-b
invariant-loop-b l = AlsoMarked l.n (with_columns l.x l.columns l.t l.b) l.initial.scratch l.scratch l.count
