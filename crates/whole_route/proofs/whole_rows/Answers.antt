use Rattle.whole_route.proofs.RowsLaws.{RowsLeft, rows_none, row_input, row_sum_lem, row_exceeds, row_stored, rows_done, done_same, place_small}
use native.Mathlib.Omega.{arith}
use Prim.Native.Nat.{◌<◌, ◌-◌, ◌+◌}
use mathlib.Core.Path.{◌≡◌}
use Rattle.whole_route.proofs.whole_rows.Goals as goal
use Rattle.whole_route.proofs.whole_rows.Goals.{In-loop-q}

-- the row that is done now
low : (c : In-loop-q) → c.loop-q.q - 1 < c.args.count
low c = omega (arith, c.loop-q-test.true, c.loop-q.auto.q)

left : (c : In-loop-q) →
    let a = c.args in
    RowsLeft a.n a.j a.first ((c.loop-q.q - 1) + 1) a.starts.now a.rows.now a.values.now a.scratch.now a.work.now c.loop-q.work
left c =
    let e : (c.loop-q.q - 1) + 1 ≡ c.loop-q.q = omega (arith, c.loop-q-test.true) in
    rw e c.loop-q.invariant

pub loop-q-init : goal.loop-q-init
loop-q-init c = rows_none c.requires.rows_input

pub at-requires : goal.at-requires
at-requires c = omega (arith, low c, c.requires.rows_input.long)

pub overflow_add-first : goal.overflow_add-first
overflow_add-first c = omega (arith, place_small c.requires.rows_input (low (goal.at.overflow_add-first c).In-loop-q))

pub next_entry-requires : goal.next_entry-requires
next_entry-requires c = let a = goal.at.next_entry-requires c in
    let L = left a.In-loop-q in
    let R = c.requires.rows_input in
    record {
      entry_input = rw c.at.ensures (row_input R L (low a.In-loop-q));
      pos_value = rw c.at.ensures (row_sum_lem R L (low a.In-loop-q) c.requires.whole_sums_stored);
    }

pub returns-then-next_entry : goal.returns-then-next_entry
returns-then-next_entry c = let a = goal.at.returns-then-next_entry c in
    row_exceeds c.requires.rows_input (left a.In-loop-q) (low a.In-loop-q) (done_same c.at.ensures c.if-next_entry.true c.next_entry.ensures)

pub loop-q-preserved : goal.loop-q-preserved
loop-q-preserved c = let a = goal.at.loop-q-preserved c in
    row_stored c.requires.rows_input (left a.In-loop-q) (low a.In-loop-q) (done_same c.at.ensures c.if-next_entry.false c.next_entry.ensures)

pub returns : goal.returns
returns c = let l = c.loop-q in
    let e : l.q ≡ 0 = omega arith in
    rows_done c.requires.rows_input (rw e at l.invariant)
