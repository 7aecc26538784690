use Prim.Native.Nat.{◌≤◌, ◌*◌}
use mathlib.Core.Path.{◌≡◌}
use lib.ListN.{length}
use Rattle.pairs.specs.ColumnOrder.{column_marking, col_start}
use Rattle.requests_writer.specs.Lines.{line_most, columns_bytes}
use Rattle.requests_writer.proofs.ColumnLaws.{pairs_to}
use Rattle.requests_writer.proofs.lines.lines_length.Given as goal

abbrev pub invariant-loop-c : goal.invariant-loop-c
invariant-loop-c l = record {
  total_is : l.total ≡ length (columns_bytes l.n (column_marking l.n l.marks) l.c);
  most : l.total ≤ line_most * pairs_to l.n (column_marking l.n l.marks) l.c;
  place_is : l.place ≡ col_start l.n l.c;
}
