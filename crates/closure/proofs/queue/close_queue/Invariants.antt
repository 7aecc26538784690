use Rattle.closure.proofs.QueueLaws.{QueueLoop, QueueColumn}
use Rattle.pairs.specs.Pair.{pair_total}
use Rattle.closure.specs.Nested.{Stops}
use Prim.Native.Nat.{◌≤◌, ◌-◌}
use Rattle.closure.proofs.queue.close_queue.Given as goal

abbrev pub invariant-column : goal.invariant-column
invariant-column g l = QueueColumn l.n l.starts l.rows (g.T.StoredValue.kept l.values) l.limit l.initial.scratch l.initial.count l.head l.w l.scratch l.count l.p

abbrev pub invariant-queue : goal.invariant-queue
invariant-queue g l = (l.count ≤ l.limit)
    × QueueLoop l.n l.starts l.rows (g.T.StoredValue.kept l.values) l.limit l.initial.scratch l.first l.stops l.span_starts l.span_ends l.scratch l.head l.count
    × Stops l.n l.starts l.rows (g.T.StoredValue.kept l.values) l.stops

abbrev pub decreases-queue : goal.decreases-queue
decreases-queue g l = pair_total l.n - l.head
