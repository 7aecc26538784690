use Prim.Native.Nat.{ℕ, ◌+◌}
use native.Mathlib.Omega.{arith}
use mathlib.Core.Path.{sym, subst₂}
use Rattle.pairs.specs.Pair.{ordered}
use Rattle.pairs.specs.Marks.{Added}
use Rattle.pattern_lists.specs.PatternMarks.{MarkOrderedInput, term_set}
use Rattle.pattern_lists.proofs.PatternMarks.{terms_spot, terms_part, range_none, range_more}
use Rattle.pattern_lists.proofs.marking.mark_terms.Goals as goal

pub loop-b-init : goal.loop-b-init
loop-b-init c = range_none c.args.marks.now (term_set c.args.columns.now c.args.a) c.args.s

pub mark_ordered-requires : goal.mark_ordered-requires
mark_ordered-requires c = let l = c.loop-b in
    let F = terms_part c.requires l.auto.marks (c.args.a + 1) c.requires.ordered (omega arith) in
    subst₂ (λ (x y : ℕ). MarkOrderedInput x y l.marks) (sym c.at-x.ensures) (sym c.at.ensures)
    (terms_spot F c.args.a l.b (omega (arith, l.auto.b, c.loop-b-test.true)) (omega arith) l.auto.b (omega (arith, c.loop-b-test.true)))

pub loop-b-preserved : goal.loop-b-preserved
loop-b-preserved c = let l = c.loop-b in
    let step = subst₂ (λ (x y : ℕ). Added (ordered x y) l.marks c.mark_ordered.new.marks) c.at-x.ensures c.at.ensures c.mark_ordered.ensures in range_more (term_set c.args.columns.now c.args.a) l.b c.args.s l.auto.b l.invariant step
