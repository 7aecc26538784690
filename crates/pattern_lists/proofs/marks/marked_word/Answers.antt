use Rattle.pattern_lists.proofs.RowLaws.{zeros_here}
use Rattle.pattern_lists.proofs.marks.marked_word.Goals as goal

pub returns-then-place-w : goal.returns-then-place-w
returns-then-place-w c = zeros_here c.requires.zeros c.if-place-w.true

pub returns : goal.returns
returns c = c.skip_zeros.ensures.before
