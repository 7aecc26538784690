use Rattle.lists.specs.Test.{any}
use Rattle.marked_pairs.specs.MarkedPairs.{AlsoMarked}
use Rattle.request_marks.specs.CrossRequests.{pair_set}
use Rattle.request_marks.proofs.cross.mark_cross_pairs.Given as goal

abbrev pub invariant-loop-p : goal.invariant-loop-p
invariant-loop-p l = AlsoMarked l.n (λ r c. any (λ k. pair_set l.a_row_starts l.a_columns l.b_row_starts l.b_columns l.a_rows l.b_rows k r c) l.p) l.initial.scratch l.scratch l.count
