use Prim.Native.Nat.{◌≤◌, ◌-◌, ◌+◌}
use native.Mathlib.Omega.{arith}
use mathlib.Core.Path.{◌≡◌, sym}
use Rattle.pairs.specs.Pair.{max_pairs}
use Rattle.pairs.proofs.Pair.{pair_total_small}
use Rattle.pairs.specs.ColumnOrder.{col_start}
use Rattle.pairs.proofs.ColumnOrder.{col_start_none, col_start_next, col_start_mono, col_start_total}
use Rattle.layout.proofs.LayoutLaws.{columns_none, placed_few, columns_room, columns_reached, columns_more, columns_end}
use Rattle.layout.proofs.lay_out.Goals as goal

-- the count is a word
few-In-loop-c : (q : goal.In-loop-c) → q.loop-c.count ≤ max_pairs
few-In-loop-c q = placed_few q.requires.0.small q.loop-c.invariant.1.placed (omega arith)

-- the count is a word
few-After-loop-c : (q : goal.After-loop-c) → q.loop-c.count ≤ max_pairs
few-After-loop-c q = placed_few q.requires.0.small q.loop-c.invariant.1.placed (omega arith)

-- the next column's place
next : (t : goal.After-slice_known-in-loop-c-2-1) →
    let n = t.args.n in
    let l = t.loop-c in
    l.place + (n - l.c) ≡ col_start n (l.c + 1)
next t =
    let l = t.loop-c in
    omega (arith, l.invariant.0, col_start_next t.args.n l.c)

pub loop-c-init : goal.loop-c-init
loop-c-init c = (sym (col_start_none _), columns_none _ _ _ _)

pub overflow_cast-result_starts : goal.overflow_cast-result_starts
overflow_cast-result_starts c = omega (arith, few-In-loop-c c)

pub lay_reached_column-count-requires : goal.lay_reached_column-count-requires
lay_reached_column-count-requires c = let l = c.loop-c in (
  columns_room c.requires.0 l.invariant.1 _ l.invariant.0 c.loop-c-test.true l.auto.result_rows,
  omega (arith, c.requires.1, c.loop-c-test.true),
  columns_reached c.requires.0.small l.invariant.1.placed c.args.reached.now c.requires.2,
)

pub overflow_add-place : goal.overflow_add-place
overflow_add-place c = let n = c.args.n in
    omega (arith, next c, col_start_mono n (c.loop-c.c + 1) n (omega (arith, c.loop-c-test.true)), col_start_total n, pair_total_small n c.requires.0.small)

pub loop-c-preserved : goal.loop-c-preserved
loop-c-preserved c = let l = c.loop-c in (
  next c,
  columns_more c.requires.0 l.invariant.1 c.loop-c-test.true c.lay_reached_column-count.ensures,
)

pub overflow_cast-result_starts-2 : goal.overflow_cast-result_starts-2
overflow_cast-result_starts-2 c = omega (arith, few-After-loop-c c)

pub returns : goal.returns
returns c = let l = c.loop-c in
    columns_end c.requires.0 l.invariant.1 (omega arith)
