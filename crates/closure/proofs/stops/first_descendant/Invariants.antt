use mathlib.Core.Bool.{false}
use Rattle.lists.specs.Test.{any_in}
use Rattle.columns.specs.Kept.{kept_below}
use mathlib.Core.Path.{◌≡◌}
use Rattle.closure.proofs.stops.first_descendant.Given as goal

abbrev pub invariant-loop-q : goal.invariant-loop-q
invariant-loop-q g l = any_in (kept_below l.rows (g.T.StoredValue.kept l.values) l.c) l.s l.q ≡ false
