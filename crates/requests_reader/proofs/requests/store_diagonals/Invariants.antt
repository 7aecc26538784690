use Rattle.requests_reader.proofs.RequestLaws.{DiagonalLoop}
use Rattle.requests_reader.proofs.requests.store_diagonals.Given as goal

abbrev pub invariant-loop-k : goal.invariant-loop-k
invariant-loop-k l = DiagonalLoop l.n l.k l.initial.rows l.initial.columns l.rows l.columns
