use Prim.Native.Nat.{◌+◌}
use native.Mathlib.Omega.{arith}
use Rattle.lists.specs.Test.{any_in_none}
use Rattle.pattern_lists.specs.PatternMarks.{terms_set}
use Rattle.marked_pairs.specs.MarkedPairs.{also_none, also_next}
use Rattle.request_marks.proofs.OperatorLaws.{row_part}
use Rattle.request_marks.proofs.operator.mark_row.Goals as goal

pub loop-a-init : goal.loop-a-init
loop-a-init c = also_none _ (λ r k. any_in_none _ c.args.s) c.requires.marked

pub mark_terms-count-requires : goal.mark_terms-count-requires
mark_terms-count-requires c = let l = c.loop-a in
    row_part c.requires l.invariant.marked (l.a + 1) (omega (arith, l.auto.a)) (omega (arith, c.loop-a-test.true))

pub loop-a-preserved : goal.loop-a-preserved
loop-a-preserved c = let l = c.loop-a in
    let a = c.args in
    also_next (terms_set a.columns.now a.s) l.a a.s l.auto.a l.invariant c.mark_terms-count.ensures
