use Prim.Native.Nat.{◌≤◌, ◌+◌}
use mathlib.Core.Path.{◌≡◌}
use lib.ListN.{get_or}
use Rattle.columns.specs.Kept.{nonzero, pattern}
use Rattle.columns.specs.Form.{pattern_pairs}
use Rattle.kept_entries.proofs.pattern_pairs.Given as goal

abbrev pub invariant-loop-c : goal.invariant-loop-c
invariant-loop-c l = (l.count ≤ get_or l.starts l.c 0 + l.c) × (l.count ≡ pattern_pairs l.c (pattern l.starts l.rows (nonzero l.values)))
