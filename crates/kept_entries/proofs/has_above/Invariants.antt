use mathlib.Core.Bool.{false}
use mathlib.Core.Path.{◌≡◌}
use Rattle.lists.specs.Test.{any}
use Rattle.kept_entries.specs.Above.{has_above}
use Rattle.kept_entries.proofs.has_above.Given as goal

abbrev pub invariant-loop-c : goal.invariant-loop-c
invariant-loop-c l = any (has_above l.starts l.rows) l.c ≡ false
