use Prim.Native.Nat.{◌≤◌, ◌*◌}
use mathlib.Core.Path.{◌≡◌}
use lib.ListN.{length, take}
use Rattle.requests_writer.specs.Lines.{line_most, rows_bytes}
use Rattle.requests_writer.proofs.rows.rows_length.Given as goal

abbrev pub invariant-loop-k : goal.invariant-loop-k
invariant-loop-k l = record {
  total_is : l.total ≡ length (rows_bytes l.c (take l.k l.rows));
  most : l.total ≤ line_most * l.k;
}
