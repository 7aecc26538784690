use Rattle.requests_reader.proofs.HeaderLaws.{over_comment, over_end}
use borrow.Author.Rules.{rules}
use Rattle.requests_reader.proofs.front.pass_over.Goals as goal

pub returns-then-text-p-eq37 : goal.returns-then-text-p-eq37
returns-then-text-p-eq37 c = over_comment _ _ (search rules) _ c.if-text-p-eq37.true c.skip_line.ensures

pub returns : goal.returns
returns c = rw c.ok.ensures.value (over_end _ _ (search rules) c.if-text-p-eq37.false _ c.line_end.ensures)
