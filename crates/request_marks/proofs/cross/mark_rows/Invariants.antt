use Rattle.marked_pairs.specs.MarkedPairs.{AlsoMarked}
use Rattle.request_marks.specs.CrossRequests.{cross_set}
use Rattle.request_marks.proofs.cross.mark_rows.Given as goal

abbrev pub invariant-loop-a : goal.invariant-loop-a
invariant-loop-a l = AlsoMarked l.n (cross_set l.a_columns l.b_columns l.s l.a l.t l.f) l.initial.scratch l.scratch l.count
