use mathlib.Core.Path.{sym}
use borrow.Author.Tests.{le-leb, lt-leb}
use Rattle.refusal.proofs.Steps.{first_hit, first_skip, first_end}
use Rattle.whole_pairs.proofs.faults.fault_verdict.Goals as goal

pub returns-then-worst-ge2 : goal.returns-then-worst-ge2
returns-then-worst-ge2 c = sym (first_hit 8 _ _ (le-leb 2 _ c.if-worst-ge2.true))

pub returns-then-worst-ge1 : goal.returns-then-worst-ge1
returns-then-worst-ge1 c = sym (first_skip 8 _ _ (lt-leb 2 _ c.if-worst-ge2.false) (first_hit 20 _ _ (le-leb 1 _ c.if-worst-ge1.true)))

pub returns : goal.returns
returns c = sym (first_skip 8 _ _ (lt-leb 2 _ c.if-worst-ge2.false) (first_skip 20 _ _ (lt-leb 1 _ c.if-worst-ge1.false) (first_end tt)))
