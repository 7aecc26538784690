use Prim.Native.Nat.{◌≤◌, ◌-◌, ◌+◌}
use native.Mathlib.Omega.{arith}
use mathlib.Core.Path.{◌≡◌, sym, ap₂, ◌∙◌}
use mathlib.Core.List.{List}
use Prim.Native.Nat.{ℕ}
use lib.ListN.{set}
use Rattle.lists.specs.Overwrite.{filled_none, filled_more}
use Rattle.pairs.specs.Pair.{max_pairs}
use Rattle.pairs.proofs.Pair.{pair_total_small}
use Rattle.pairs.specs.ColumnOrder.{col_start, column_marking}
use Rattle.pairs.proofs.ColumnOrder.{col_start_none, col_start_next, col_start_mono, col_start_total}
use Rattle.entries.specs.Entries.{column_count}
use Rattle.layout.proofs.LayoutLaws.{placed_none, placed_few, placed_more, column_few, columns_reached, firsts_room, firsts_end}
use Rattle.layout.proofs.firsts.lay_firsts.Goals as goal

-- the count is a word
few : (q : goal.In-loop-c) → q.loop-c.count ≤ max_pairs
few q = placed_few q.requires.0.small q.loop-c.invariant.2 (omega arith)

-- the next column's place
next : (t : goal.After-slice_known-in-loop-c-2-1) →
    let n = t.args.n in
    let l = t.loop-c in
    l.place + (n - l.c) ≡ col_start n (l.c + 1)
next t =
    let l = t.loop-c in
    omega (arith, l.invariant.0, col_start_next t.args.n l.c)

pub loop-c-init : goal.loop-c-init
loop-c-init c = (sym (col_start_none _), filled_none _ _, placed_none _ _)

pub overflow_cast-firsts : goal.overflow_cast-firsts
overflow_cast-firsts c = omega (arith, few c)

pub place_reached_column-count-requires : goal.place_reached_column-count-requires
place_reached_column-count-requires c = let l = c.loop-c in record {
  list_column_input = (
    firsts_room c.requires.0 l.invariant.2 _ l.invariant.0 c.loop-c-test.true l.auto.listed,
    column_few c.requires.0.small l.invariant.2 c.loop-c-test.true,
  );
  c_in_bounds = (
    omega (arith, c.requires.1, c.loop-c-test.true),
    columns_reached c.requires.0.small l.invariant.2 c.args.reached.now c.requires.2,
  );
}

pub overflow_add-place : goal.overflow_add-place
overflow_add-place c = let n = c.args.n in
    omega (arith, next c, col_start_mono n (c.loop-c.c + 1) n (omega (arith, c.loop-c-test.true)), col_start_total n, pair_total_small n c.requires.0.small)

pub loop-c-preserved : goal.loop-c-preserved
loop-c-preserved c = let l = c.loop-c in
    let f = column_count c.args.n (column_marking c.args.n c.args.scratch.now) in
    let K = l.invariant.2 in (
      next c,
      ap₂ (λ (x : List ℕ) (y : ℕ). set x l.c y) l.invariant.1 K.count_is
          ∙ filled_more f c.args.firsts.now l.c (omega (arith, c.requires.0.firsts_fit, c.loop-c-test.true)),
      placed_more c.requires.0.small K c.loop-c-test.true c.place_reached_column-count.ensures.0 c.place_reached_column-count.ensures.1,
    )

pub returns : goal.returns
returns c = let l = c.loop-c in
    firsts_end c.requires.0 l.invariant.2 (omega arith) l.invariant.1
