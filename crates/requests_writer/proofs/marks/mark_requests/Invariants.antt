use Rattle.requests_writer.proofs.MarkLaws.{MarkedTo}
use Rattle.requests_writer.proofs.marks.mark_requests.Given as goal

abbrev pub invariant-loop-k : goal.invariant-loop-k
invariant-loop-k l = MarkedTo l.n l.rows l.columns l.initial.marks l.marks l.k
