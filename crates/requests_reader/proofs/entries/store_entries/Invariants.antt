use Rattle.requests_reader.proofs.StoreLaws.{StoreLoop}
use Rattle.requests_reader.proofs.entries.store_entries.Given as goal

abbrev pub invariant-loop-k : goal.invariant-loop-k
invariant-loop-k l = StoreLoop l.text l.p l.count l.initial.rows l.initial.columns l.i l.k l.rows l.columns
