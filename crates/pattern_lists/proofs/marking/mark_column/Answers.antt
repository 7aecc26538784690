use native.Mathlib.Omega.{arith}
use Rattle.columns.specs.Kept.{nonzero}
use Rattle.pattern_lists.specs.PatternMarks.{entry_set}
use Rattle.pattern_lists.proofs.PatternMarks.{range_none, range_more}
use Rattle.pattern_lists.proofs.marking.mark_column.Goals as goal

pub loop-p-init : goal.loop-p-init
loop-p-init c = let a = c.args in
    range_none a.marks.now (entry_set a.rows.now (nonzero a.values.now) a.c) a.s

pub mark_entry-requires : goal.mark_entry-requires
mark_entry-requires c = let l = c.loop-p in
    let P = c.requires in
    let f = P.fits l.p l.auto.p c.loop-p-test.true in record { p_in_bounds = (omega (arith, c.loop-p-test.true, P.stored), omega (arith, c.loop-p-test.true, P.valued)); mark_entry_input = (f.0, λ q. omega (arith, f.1 q, l.auto.marks)) }

pub loop-p-preserved : goal.loop-p-preserved
loop-p-preserved c = let l = c.loop-p in
    let a = c.args in range_more (entry_set a.rows.now (nonzero a.values.now) a.c) l.p a.s l.auto.p l.invariant c.mark_entry.ensures
