use Prim.Native.Nat.{ℕ, ◌+◌}
use native.Mathlib.Omega.{arith}
use mathlib.Core.Path.{sym, subst₂}
use Rattle.lists.specs.Test.{any_in_none}
use Rattle.pairs.specs.Pair.{ordered}
use Rattle.marked_pairs.specs.MarkedPairs.{InsertInput, AlsoMarked, also_none, also_next}
use Rattle.pattern_lists.specs.PatternMarks.{term_set}
use Rattle.request_marks.proofs.OperatorLaws.{row_part, row_insert}
use Rattle.request_marks.proofs.operator.mark_terms.Goals as goal

pub loop-b-init : goal.loop-b-init
loop-b-init c = also_none _ (λ r k. any_in_none _ c.args.s) c.requires.marked

pub insert_closure_pair-count-requires : goal.insert_closure_pair-count-requires
insert_closure_pair-count-requires c = let l = c.loop-b in
    subst₂ (λ (x y : ℕ). InsertInput c.args.n x y l.scratch l.count) (sym c.at-x.ensures) (sym c.at.ensures)
    (row_insert (row_part c.requires l.invariant.marked (c.args.a + 1) c.requires.ordered (omega arith))
    c.args.a l.b (omega arith) (omega (arith, c.loop-b-test.true)))

pub loop-b-preserved : goal.loop-b-preserved
loop-b-preserved c = let l = c.loop-b in
    let step =
    subst₂ (λ (x y : ℕ). AlsoMarked c.args.n (ordered x y) l.scratch c.insert_closure_pair-count.new.scratch c.insert_closure_pair-count.result)
    c.at-x.ensures c.at.ensures c.insert_closure_pair-count.ensures.also in
    also_next (term_set c.args.columns.now c.args.a) l.b c.args.s l.auto.b l.invariant step
