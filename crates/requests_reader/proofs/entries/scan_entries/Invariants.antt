use Prim.Native.Nat.{◌-◌}
use Rattle.requests_reader.proofs.EntryLaws.{ScanLoop}
use lib.ListN.{length}
use Rattle.requests_reader.proofs.entries.scan_entries.Given as goal

abbrev pub invariant-loop-line : goal.invariant-loop-line
invariant-loop-line l = ScanLoop l.n l.text l.p l.i l.seen l.outside

abbrev pub decreases-loop-line : goal.decreases-loop-line
decreases-loop-line l = length l.text - l.i
