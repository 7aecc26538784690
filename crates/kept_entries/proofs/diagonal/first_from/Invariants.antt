use mathlib.Core.Bool.{false}
use Rattle.columns.specs.Columns.{outside_at}
use Rattle.lists.specs.Test.{any_in}
use mathlib.Core.Path.{◌≡◌}
use Rattle.kept_entries.proofs.diagonal.first_from.Given as goal

abbrev pub invariant-loop-p : goal.invariant-loop-p
invariant-loop-p l = any_in (outside_at l.c l.rows) l.s l.p ≡ false
