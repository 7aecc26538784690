use mathlib.Core.Bool.{false}
use Rattle.columns.specs.Diagonal.{bad_diagonal}
use Rattle.lists.specs.Test.{any}
use mathlib.Core.Path.{◌≡◌}
use Rattle.kept_entries.proofs.diagonal_check.check_diagonals.Given as goal

abbrev pub invariant-loop-c : goal.invariant-loop-c
invariant-loop-c l = any (bad_diagonal l.starts l.rows l.values) l.c ≡ false
