use Prim.Native.Nat.{◌+◌, ◌-◌, ◌≤◌, ◌<◌}
use native.Mathlib.Omega.{arith}
use mathlib.Core.Logic.{inl, inr}
use mathlib.Core.Path.{refl}
use Rattle.pairs.specs.Pair.{max_pairs}
use Rattle.pairs.proofs.Pair.{pair_total_small}
use Rattle.columns.specs.Columns.{start}
use Rattle.marked_pairs.specs.MarkedPairs.{count_most}
use Rattle.closure.proofs.QueueLaws.{inserted_equal}
use Rattle.closure.proofs.queue.end_column.Goals as goal

-- the count is a word
few : (c : goal.Else-at-stop) → c.args.count ≤ max_pairs
few c = omega (arith, count_most c.requires.marked, pair_total_small c.args.n c.requires.small)

-- the stop is before the column's end
early-Else-at-stop : (c : goal.Else-at-stop) → c.args.stop < start c.args.starts.now (c.args.c + 1)
early-Else-at-stop c = omega (arith, c.at.ensures, c.if-at-stop.false)

-- the stop is before the column's end
early-After-insert_closure_pair-arg-1 : (c : goal.After-insert_closure_pair-arg-1) → c.args.stop < start c.args.starts.now (c.args.c + 1)
early-After-insert_closure_pair-arg-1 c = omega (arith, c.at.ensures, c.if-at-stop.false)

-- the stop is before the column's end
early-After-slice_known-4-1 : (c : goal.After-slice_known-4-1) → c.args.stop < start c.args.starts.now (c.args.c + 1)
early-After-slice_known-4-1 c = omega (arith, c.at.ensures, c.if-at-stop.false)

pub returns-then-r-c : goal.returns-then-r-c
returns-then-r-c c = inl (λ q. absurd (c.if-r-c.true q), refl, refl, refl, refl)

pub returns-then-at-stop : goal.returns-then-at-stop
returns-then-at-stop c = inl (λ q. omega (arith, c.at.ensures, c.if-at-stop.true), refl, refl, refl, refl)

pub overflow_cast-span_starts : goal.overflow_cast-span_starts
overflow_cast-span_starts c = omega (arith, few c, c.requires.order)

pub overflow_cast-span_ends : goal.overflow_cast-span_ends
overflow_cast-span_ends c = omega (arith, few c)

pub overflow_sub-stop : goal.overflow_sub-stop
overflow_sub-stop c = omega (arith, c.requires.after (early-Else-at-stop c))

pub at-d-requires : goal.at-d-requires
at-d-requires c = omega (arith, early-Else-at-stop c, c.requires.after (early-Else-at-stop c), c.requires.stored)

pub insert_closure_pair-requires : goal.insert_closure_pair-requires
insert_closure_pair-requires c = let d = c.requires.rows_inside (c.args.stop - 1) (omega (arith, early-After-insert_closure_pair-arg-1 c, c.requires.after (early-After-insert_closure_pair-arg-1 c), c.requires.stored)) in
    record {
      small = c.requires.small;
      first = omega (arith, c.at-d.ensures);
      second = omega (arith, c.at-d.ensures);
      marked = c.requires.marked;
    }

pub returns : goal.returns
returns c = inr (c.if-r-c.false, early-After-slice_known-4-1 c, refl, refl, inserted_equal c.at-d.ensures c.insert_closure_pair.ensures)
