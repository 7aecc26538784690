use Rattle.marked_pairs.specs.MarkedPairs.{also_none, also_both, also_cong}
use Rattle.request_marks.proofs.DiagonalLaws.{diagonals_none, diagonals_next}
use Rattle.request_marks.proofs.diagonals.mark_diagonals.Goals as goal

pub loop-i-init : goal.loop-i-init
loop-i-init c = also_none _ diagonals_none c.clear_pairs.ensures.marked

pub insert_closure_pair-count-requires : goal.insert_closure_pair-count-requires
insert_closure_pair-count-requires c = record { small = c.requires.small; first = c.loop-i-test.true; second = c.loop-i-test.true; marked = c.loop-i.invariant.marked }

pub loop-i-preserved : goal.loop-i-preserved
loop-i-preserved c =
    also_cong (λ r k h l. diagonals_next c.loop-i.i r k) (also_both c.loop-i.invariant c.insert_closure_pair-count.ensures.also)
