use mathlib.Core.Bool.{false}
use mathlib.Core.Path.{◌≡◌}
use Rattle.lists.specs.Test.{any}
use Rattle.columns.specs.Columns.{start, outside_at}
use Rattle.factor_check.proofs.rows.row_outside.Given as goal

abbrev pub invariant-loop-c : goal.invariant-loop-c
invariant-loop-c l = any (outside_at l.n l.rows) (start l.starts l.c) ≡ false
