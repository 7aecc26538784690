use lib.ListN.{take}
use Rattle.requests_writer.specs.Lines.{Wrote, rows_bytes}
use Rattle.requests_writer.proofs.rows.write_rows.Given as goal

abbrev pub invariant-loop-k : goal.invariant-loop-k
invariant-loop-k l = Wrote (rows_bytes l.c (take l.k l.rows)) l.place l.initial.text l.text l.next
