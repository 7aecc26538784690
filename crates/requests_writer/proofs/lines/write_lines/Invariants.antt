use mathlib.Core.Path.{◌≡◌}
use Rattle.pairs.specs.ColumnOrder.{column_marking, col_start}
use Rattle.requests_writer.specs.Lines.{Wrote, columns_bytes}
use Rattle.requests_writer.proofs.lines.write_lines.Given as goal

abbrev pub invariant-loop-c : goal.invariant-loop-c
invariant-loop-c l = record {
  wrote : Wrote (columns_bytes l.n (column_marking l.n l.marks) l.c) l.start l.initial.text l.text l.next;
  place_is : l.place ≡ col_start l.n l.c;
}
