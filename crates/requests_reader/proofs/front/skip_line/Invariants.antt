use Rattle.requests_reader.proofs.HeaderLaws.{SkipLineLoop}
use Rattle.requests_reader.proofs.front.skip_line.Given as goal

abbrev pub invariant-loop-i : goal.invariant-loop-i
invariant-loop-i l = SkipLineLoop l.text l.p l.i
