use Rattle.file_lines.proofs.PlaceLaws.{end_none, end_here, end_not}
use borrow.Author.Rules.{rules}
use Rattle.file_lines.proofs.line_end.Goals as goal

pub returns-then-at-text : goal.returns-then-at-text
returns-then-at-text c = end_none _ _ _ c.skip_blanks-at.ensures (search rules)

pub returns-then-text-at-eq10 : goal.returns-then-text-at-eq10
returns-then-text-at-eq10 c = end_here _ _ _ c.skip_blanks-at.ensures (search rules) c.if-text-at-eq10.true

pub returns : goal.returns
returns c = end_not _ _ _ c.skip_blanks-at.ensures (search rules) c.if-text-at-eq10.false
