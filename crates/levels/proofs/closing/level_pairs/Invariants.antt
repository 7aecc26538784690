use Prim.Native.Nat.{◌≤◌, ◌-◌, ◌+◌}
use mathlib.Core.Path.{◌≡◌}
use lib.ListN.{length}
use lib.ListN.{drop}
use Rattle.pairs.specs.Pair.{pair_total}
use Rattle.columns.specs.Kept.{nonzero, pattern}
use Rattle.closed_set.specs.Requests.{requested}
use Rattle.levels.specs.Closing.{AtLevel}
use Rattle.levels.proofs.closing.level_pairs.Given as goal

abbrev pub invariant-loop-lo : goal.invariant-loop-lo
invariant-loop-lo l = (1 ≤ l.level) × (l.level ≤ l.lo + 1) × (length l.scratch ≡ length l.initial.scratch) × (drop (pair_total l.n + pair_total l.n) l.scratch ≡ drop (pair_total l.n + pair_total l.n) l.initial.scratch)
    × AtLevel l.n (pattern l.starts l.rows (nonzero l.values)) (requested l.request_rows l.request_columns) (l.level - 1) l.scratch l.lo l.hi

abbrev pub decreases-loop-lo : goal.decreases-loop-lo
decreases-loop-lo l = pair_total l.n - l.lo
