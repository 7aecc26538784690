use Rattle.columns.specs.Kept.{factor_pairs}
use Prim.Native.Nat.{◌≤◌}
use mathlib.Core.Path.{◌≡◌}
use lib.ListN.{get_or}
use Rattle.kept_entries.proofs.kept_columns.Given as goal

abbrev pub invariant-loop-c : goal.invariant-loop-c
invariant-loop-c g l = (l.count ≤ get_or l.starts l.c 0) × (l.count ≡ factor_pairs l.starts l.rows (g.T.StoredValue.kept l.values) l.c)
