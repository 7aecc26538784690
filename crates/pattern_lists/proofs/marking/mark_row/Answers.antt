use Prim.Native.Nat.{◌+◌}
use native.Mathlib.Omega.{arith}
use Rattle.pattern_lists.specs.PatternMarks.{terms_set}
use Rattle.pattern_lists.proofs.PatternMarks.{terms_part, range_none, range_more}
use Rattle.pattern_lists.proofs.marking.mark_row.Goals as goal

pub loop-a-init : goal.loop-a-init
loop-a-init c = range_none c.args.marks.now (terms_set c.args.columns.now c.args.s) c.args.s

pub mark_terms-requires : goal.mark_terms-requires
mark_terms-requires c = let l = c.loop-a in
    terms_part c.requires l.auto.marks (l.a + 1) (omega (arith, l.auto.a)) (omega (arith, c.loop-a-test.true))

pub loop-a-preserved : goal.loop-a-preserved
loop-a-preserved c = let l = c.loop-a in
    let a = c.args in range_more (terms_set a.columns.now a.s) l.a a.s l.auto.a l.invariant c.mark_terms.ensures
