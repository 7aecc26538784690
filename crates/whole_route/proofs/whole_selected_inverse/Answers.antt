use Rattle.pairs.specs.ColumnOrder.{column_marking}
use Rattle.entries.specs.Entries.{column_count}
use Rattle.entries.proofs.Position.{column_count_mono}
use Rattle.whole_route.proofs.ColumnLaws.{ColumnsLeft, columns_none, column_input, column_exceeds_lem, column_solved, most_more, columns_done, rows_same}
use native.Mathlib.Omega.{arith}
use Prim.Native.Nat.{◌<◌, ◌-◌, ◌+◌}
use mathlib.Core.Path.{◌≡◌, ◌∙◌}
use Rattle.whole_route.proofs.whole_selected_inverse.Goals as goal
use Rattle.whole_route.proofs.whole_selected_inverse.Goals.{In-loop-j}

low : (c : In-loop-j) → c.loop-j.j - 1 < c.args.n
low c = omega (arith, c.loop-j-test.true, c.loop-j.auto.j)

left : (c : In-loop-j) →
    let a = c.args in
    ColumnsLeft a.n ((c.loop-j.j - 1) + 1) a.starts.now a.rows.now a.values.now a.scratch.now a.work.now c.loop-j.work
left c =
    let e : (c.loop-j.j - 1) + 1 ≡ c.loop-j.j = omega (arith, c.loop-j-test.true) in
    rw e c.loop-j.invariant.1

-- where the column's positions end
next_is : (c : In-loop-j) →
    let a = c.args in
    c.loop-j.next ≡ column_count a.n (column_marking a.n a.scratch.now) ((c.loop-j.j - 1) + 1)
next_is c =
    let e : (c.loop-j.j - 1) + 1 ≡ c.loop-j.j = omega (arith, c.loop-j-test.true) in
    rw e c.loop-j.invariant.0

pub loop-j-init : goal.loop-j-init
loop-j-init c = (c.requires.count_value, columns_none c.requires.whole_route_input.0, λ p lo hi. absurd (omega (arith, c.requires.count_value)))

pub at-first-requires : goal.at-first-requires
at-first-requires c = omega (arith, low c, c.requires.whole_route_input.0.starts_fit)

pub filled_column-requires : goal.filled_column-requires
filled_column-requires c = let b = (goal.at.filled_column-requires c).In-loop-j in
    let l = c.loop-j in record {
      whole_column_input = column_input c.requires.whole_route_input.0 (left b) (low b) (omega (arith, c.requires.whole_route_input.1, l.auto.listed)) c.at-first.ensures;
      most_from = λ p lo hi. l.invariant.2 p (omega (arith, next_is b)) hi;
      next_value = next_is b;
    }

pub returns-then-filled_column : goal.returns-then-filled_column
returns-then-filled_column c = let b = (goal.at.returns-then-filled_column c).In-loop-j in
    column_exceeds_lem c.requires.whole_route_input.0 (left b) (low b) (rows_same c.if-filled_column.true c.filled_column.ensures)

pub greatest_size-most-requires : goal.greatest_size-most-requires
greatest_size-most-requires c = let a = c.args in
    let b = (goal.at.greatest_size-most-requires c).In-loop-j in
    let W = c.requires.whole_route_input.0 in
    let S = column_marking a.n a.scratch.now in
    let k = c.loop-j.j - 1 in
    let L = column_solved W (left b) (low b) c.at-first.ensures (rows_same c.if-filled_column.false c.filled_column.ensures) in (
      omega (arith, c.at-first.ensures, W.starts_are k (low b), next_is b, column_count_mono a.n S k (k + 1) (omega arith)),
      omega (arith, next_is b, column_count_mono a.n S (k + 1) a.n (omega (arith, low b)), W.fits, L.long),
    )

pub loop-j-preserved : goal.loop-j-preserved
loop-j-preserved c = let b = (goal.at.loop-j-preserved c).In-loop-j in
    let W = c.requires.whole_route_input.0 in
    let D = rows_same c.if-filled_column.false c.filled_column.ensures in (
      c.at-first.ensures ∙ W.starts_are (c.loop-j.j - 1) (low b),
      column_solved W (left b) (low b) c.at-first.ensures D,
      most_more W (left b) (low b) (next_is b) c.loop-j.invariant.2 D c.greatest_size-most.ensures,
    )

pub returns : goal.returns
returns c = let l = c.loop-j in
    let e : l.j ≡ 0 = omega arith in
    columns_done c.requires.whole_route_input.0 (rw e at l.invariant.1)
