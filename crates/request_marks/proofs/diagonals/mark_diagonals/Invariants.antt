use Rattle.marked_pairs.specs.MarkedPairs.{AlsoMarked}
use Rattle.request_marks.specs.DiagonalMarks.{diagonal_pairs}
use Rattle.request_marks.proofs.diagonals.mark_diagonals.Given as goal

abbrev pub invariant-loop-i : goal.invariant-loop-i
invariant-loop-i l = AlsoMarked l.n (diagonal_pairs l.i) l.initial.scratch l.scratch l.count
