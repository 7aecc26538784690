use Prim.Native.Nat.{◌+◌}
use native.Mathlib.Omega.{arith}
use mathlib.Core.Path.{◌≡◌}
use mir.Syntax.{w64}
use mir.Val.{to_z, of_z}
use mir.ValLaws.{to_z-of_z}
use Rattle.columns.specs.Columns.{row}
use Rattle.whole_route.specs.ColumnSums.{AddWholeAtInput, AddWholeRowsInput}
use Rattle.whole_route.proofs.ColumnSumLaws.{rows_none, rows_more, row_input}
use Rattle.whole_route.proofs.column_sums.add_rows.Goals as goal
use Rattle.whole_route.proofs.column_sums.add_rows.Goals.{In-loop-q}

-- what the function asks, of l as the loop has it
input : (c : In-loop-q) →
    let a = c.args in
    AddWholeRowsInput a.base a.first a.from a.count (to_z w64 (of_z w64 a.l)) a.listed.now a.scratch.now a.work.now
input c = rw (to_z-of_z w64 c.args.l c.ranges.l) c.requires

-- what the product asks
asks : (c : In-loop-q) →
    let l = c.loop-q in
    let a = c.args in
    AddWholeAtInput (a.first + l.q) (a.base + row a.listed.now l.q) (to_z w64 (of_z w64 a.l)) a.scratch.now l.work
asks c = let l = c.loop-q in
    row_input (input c) l.invariant l.auto.q c.loop-q-test.true

pub loop-q-init : goal.loop-q-init
loop-q-init c = rows_none _ _ _ _ _ _ _

pub overflow_add-first : goal.overflow_add-first
overflow_add-first c = let P = c.requires in omega (arith, P.fits, c.loop-q-test.true)

pub at-requires : goal.at-requires
at-requires c = let P = c.requires in omega (arith, P.long, c.loop-q-test.true)

pub overflow_add-base : goal.overflow_add-base
overflow_add-base c = omega (arith, c.at.ensures, (asks (goal.at.overflow_add-base c).In-loop-q).inside)

pub add_at-requires : goal.add_at-requires
add_at-requires c = rw c.at.ensures (asks (goal.at.add_at-requires c).In-loop-q)

pub loop-q-preserved : goal.loop-q-preserved
loop-q-preserved c = let l = c.loop-q in
    rows_more (input (goal.at.loop-q-preserved c).In-loop-q) l.invariant l.auto.q c.loop-q-test.true c.at.ensures c.add_at.ensures

pub returns : goal.returns
returns c = let l = c.loop-q in
    let e : l.q ≡ c.args.count = omega (arith, c.requires.ordered) in
    let h = rw e at l.invariant in
    rw (to_z-of_z w64 c.args.l c.ranges.l) at h
