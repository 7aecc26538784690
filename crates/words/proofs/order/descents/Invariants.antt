use Rattle.lists.specs.Select.{tally}
use Rattle.columns.specs.Columns.{not_above}
use Prim.Native.Nat.{◌≤◌, ◌-◌, ◌+◌}
use mathlib.Core.Path.{◌≡◌}
use Rattle.words.proofs.order.descents.Given as goal

abbrev pub invariant-loop-p : goal.invariant-loop-p
invariant-loop-p l = (l.p - (l.s + 1) ≤ l.e - (l.s + 1)) × (l.count ≡ tally (not_above l.rows) (l.s + 1) l.p)
