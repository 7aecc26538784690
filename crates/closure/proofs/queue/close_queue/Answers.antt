use mathlib.Core.Bool.{true}
use Rattle.closure.proofs.QueueLaws.{ready_none, ready_skip, ready_next, column_done, column_serving}
use Rattle.closure.proofs.QueueLaws.{serving_more, head_words, head_pairs, word_inside, word_end, word_most}
use Rattle.closure.proofs.QueueLaws.{column_none, column_skip, column_more, entry_rows_lem, entry_insert, finished, finished_past, above_dropped, zero_dropped, entry_kept}
use Rattle.pairs.specs.Scratch.{column_of}
use Rattle.marked_pairs.specs.MarkedPairs.{queue_word}
use Rattle.columns.specs.Kept.{kept_below}
use Rattle.columns.specs.Columns.{start}
use borrow.Author.Rules.{rules}
use borrow.Author.Tests.{not-true, not-false}
use native.Mathlib.Omega.{arith}
use Prim.Native.Nat.{ℕ, ◌<◌, ◌+◌}
use mathlib.Core.Path.{◌≡◌, sym, ap, ◌∙◌}
use lib.ListN.{length, get_or}
use Rattle.std.specs.Prelude.{not}
use Rattle.closure.proofs.queue.close_queue.Goals as goal
use Rattle.closure.proofs.queue.close_queue.Goals.{In-queue, After-at-w, In-column, Else-not-is_kept}

-- ---- what is known there
in-queue : (g : _) (c : In-queue g) → c.queue_start-start.result + c.queue.head < length c.queue.scratch
in-queue g c = omega (arith, c.queue_start-start.ensures.0, head_words _ c.requires.queue_input c.queue.invariant.1.serving c.queue-test.true)

-- the word at head
is_word : (g : _) (c : After-at-w g) → c.at-w.result ≡ queue_word c.args.n c.queue.scratch c.queue.head
is_word g c = c.at-w.ensures ∙ ap (λ (k : ℕ). get_or c.queue.scratch (k + c.queue.head) 0) c.queue_start-start.ensures.0

-- its column is the factor's
in_factor : (g : _) (c : After-at-w g) → column_of c.at-w.result < c.args.n
in_factor g c = word_inside _ c.requires.queue_input c.queue.invariant.1.serving c.queue-test.true (is_word g c)

-- the entry is before the column's end
in_column : (g : _) (c : In-column g) → c.column.p < start c.args.starts.now (column_of c.at-w.result + 1)
in_column g c = omega (arith, word_most c.args.starts.now c.args.rows.now c.at-w.result c.column_end-end.ensures, c.column-test.true)

in_rows : (g : _) (c : In-column g) → c.column.p < length c.args.rows.now
in_rows g c = entry_rows_lem _ c.requires.queue_input c.column.invariant (in_column g c)

-- past both tests the entry is kept below the diagonal
is_kept_below : (g : _) (c : Else-not-is_kept g) → kept_below c.args.rows.now (g.T.StoredValue.kept c.args.values.now) (column_of c.at-w.result) c.column.p ≡ true
is_kept_below g c =
    entry_kept c.args.rows.now (g.T.StoredValue.kept c.args.values.now) _ _ c.at-k.ensures c.if-k-c.false
    (sym c.is_kept.ensures ∙ not-false _ (ap not c.if-not-is_kept.false))

pub queue-init : goal.queue-init
queue-init g c = (c.requires.queue_input.low, ready_none _ c.requires.queue_input, c.requires.queue_input.stopped)

pub overflow_add-start : goal.overflow_add-start
overflow_add-start g c = let l = in-queue g c in search rules

pub at-w-requires : goal.at-w-requires
at-w-requires g c = in-queue g c

pub queue-smaller-then-head-next : goal.queue-smaller-then-head-next
queue-smaller-then-head-next g c = let l = head_pairs _ c.requires.queue_input c.queue.invariant.1.serving c.queue-test.true in
    omega (arith, c.if-head-next.true)

pub queue-preserved-then-head-next : goal.queue-preserved-then-head-next
queue-preserved-then-head-next g c = let I = c.queue.invariant in
    (I.0, ready_skip _ c.requires.queue_input I.1 (in_factor g (goal.at.queue-preserved-then-head-next g c).After-at-w) c.after_span-next.ensures c.if-head-next.true, I.2)

pub column_end-end-requires : goal.column_end-end-requires
column_end-end-requires g c =
    word_end _ c.requires.queue_input c.queue.invariant.1.serving c.queue-test.true (is_word g (goal.at.column_end-end-requires g c).After-at-w) c.find_stop-stop.ensures.stop

pub column-init : goal.column-init
column-init g c =
    column_none _ c.requires.queue_input c.queue.invariant.1.serving c.queue-test.true c.queue.invariant.0 (is_word g (goal.at.column-init g c).After-at-w) c.at-p.ensures

pub at-k-requires : goal.at-k-requires
at-k-requires g c = in_rows g c

pub column-preserved-then-k-c : goal.column-preserved-then-k-c
column-preserved-then-k-c g c =
    column_skip _ c.requires.queue_input c.column.invariant (in_column g (goal.at.column-preserved-then-k-c g c).In-column)
    (above_dropped c.args.rows.now (g.T.StoredValue.kept c.args.values.now) _ _ c.at-k.ensures c.if-k-c.true)

pub column-preserved-then-not-is_kept : goal.column-preserved-then-not-is_kept
column-preserved-then-not-is_kept g c =
    column_skip _ c.requires.queue_input c.column.invariant (in_column g (goal.at.column-preserved-then-not-is_kept g c).In-column)
    (zero_dropped c.args.rows.now (g.T.StoredValue.kept c.args.values.now) _ _ (sym c.is_kept.ensures ∙ not-true _ (ap not c.if-not-is_kept.true)))

pub insert_closure_pair-count-requires : goal.insert_closure_pair-count-requires
insert_closure_pair-count-requires g c =
    entry_insert _ c.requires.queue_input c.column.invariant (in_column g (goal.at.insert_closure_pair-count-requires g c).In-column) c.at-k.ensures

pub column-preserved : goal.column-preserved
column-preserved g c = let a = goal.at.column-preserved g c in
    column_more _ c.requires.queue_input c.column.invariant (in_column g a.In-column) c.at-k.ensures (is_kept_below g a.Else-not-is_kept) c.insert_closure_pair-count.ensures
    c.if-limit-count.false

pub end_column-total-requires : goal.end_column-total-requires
end_column-total-requires g c = column_done _ c.requires.queue_input c.queue.invariant.1 c.column.invariant c.find_stop-stop.ensures.stop

pub queue-smaller : goal.queue-smaller
queue-smaller g c = let l = head_pairs _ c.requires.queue_input c.queue.invariant.1.serving c.queue-test.true in omega arith

pub queue-preserved : goal.queue-preserved
queue-preserved g c = let f = c.find_stop-stop.ensures in (
  c.if-limit-total.false,
  ready_next _ c.requires.queue_input c.queue.invariant.1 c.column.invariant f c.column_end-end.ensures (omega arith) c.end_column-total.ensures,
  f.reached,
)

pub returns-after-queue : goal.returns-after-queue
returns-after-queue g c = let R = c.queue.invariant.1 in
    finished _ c.requires.queue_input R.serving R.reached c.queue-test.false

pub returns-then-limit-count : goal.returns-then-limit-count
returns-then-limit-count g c = let a = goal.at.returns-then-limit-count g c in
    let I = c.requires.queue_input in
    finished_past _ I c.if-limit-count.true
    (column_serving _ I c.queue.invariant.1.serving
    (serving_more _ I c.column.invariant (in_column g a.In-column) c.at-k.ensures (is_kept_below g a.Else-not-is_kept) c.insert_closure_pair-count.ensures))

pub returns-then-limit-total : goal.returns-then-limit-total
returns-then-limit-total g c = let I = c.requires.queue_input in
    let R = ready_next _ I c.queue.invariant.1 c.column.invariant c.find_stop-stop.ensures c.column_end-end.ensures (omega arith) c.end_column-total.ensures in
    finished_past _ I c.if-limit-total.true R.serving
