use Rattle.lists.specs.Select.{tally}
use mathlib.Core.Path.{◌≡◌}
use Rattle.kept_entries.proofs.nonzero_between.Given as goal

abbrev pub invariant-loop-p : goal.invariant-loop-p
invariant-loop-p g l = l.count ≡ tally (g.T.StoredValue.kept l.values) l.s l.p
