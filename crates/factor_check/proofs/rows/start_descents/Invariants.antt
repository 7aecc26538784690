use mathlib.Core.Path.{◌≡◌}
use Prim.Native.Nat.{◌≤◌}
use lib.Dec.{ltb}
use Rattle.lists.specs.Test.{any}
use Rattle.lists.specs.Select.{tally}
use Rattle.columns.specs.Columns.{start, not_above, unsorted}
use Rattle.factor_check.proofs.rows.start_descents.Given as goal

abbrev pub invariant-loop-c : goal.invariant-loop-c
invariant-loop-c l = (l.count ≤ tally (not_above l.rows) 1 (start l.starts l.c))
    × (any (unsorted l.starts l.rows) l.c ≡ ltb l.count (tally (not_above l.rows) 1 (start l.starts l.c)))
