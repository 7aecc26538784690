use Rattle.file_lines.proofs.PlaceLaws.{SkipLoop}
use Rattle.matrix_market.specs.Text.{is_blank}
use Rattle.file_lines.proofs.skip_blanks.Given as goal

abbrev pub invariant-loop-i : goal.invariant-loop-i
invariant-loop-i l = SkipLoop is_blank l.text l.p l.i
