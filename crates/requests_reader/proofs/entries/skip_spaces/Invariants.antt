use Rattle.file_lines.proofs.PlaceLaws.{SkipLoop}
use Rattle.requests_reader.specs.EntryLines.{space}
use Rattle.requests_reader.proofs.entries.skip_spaces.Given as goal

abbrev pub invariant-loop-i : goal.invariant-loop-i
invariant-loop-i l = SkipLoop space l.text l.p l.i
