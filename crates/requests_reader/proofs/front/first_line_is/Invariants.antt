use Rattle.requests_reader.proofs.HeaderLaws.{FirstLineLoop}
use Rattle.requests_reader.proofs.front.first_line_is.Given as goal

abbrev pub invariant-loop-i : goal.invariant-loop-i
invariant-loop-i l = FirstLineLoop l.text l.label l.i
