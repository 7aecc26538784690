use Rattle.lists.specs.Test.{any_in}
use Rattle.closure.specs.Covered.{other_row}
use mathlib.Core.Path.{◌≡◌}
use Rattle.closure.proofs.stops.other_rows.Given as goal

abbrev pub invariant-loop-i : goal.invariant-loop-i
invariant-loop-i l = l.other ≡ any_in (other_row l.rows l.a l.j) l.a l.i
