use Rattle.file_lines.specs.Places.{DigitsRead}
use Rattle.file_lines.proofs.read_number.Given as goal

abbrev pub invariant-loop-i : goal.invariant-loop-i
invariant-loop-i l = DigitsRead l.text l.p l.value l.i
