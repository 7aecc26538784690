use Rattle.requests_reader.proofs.HeaderLaws.{skip_line_more, skip_line_stop, skip_line_end}
use borrow.Author.Rules.{rules}
use Rattle.requests_reader.proofs.front.skip_line.Goals as goal

pub returns-then-text-i-eq10 : goal.returns-then-text-i-eq10
returns-then-text-i-eq10 c = skip_line_stop _ _ _ c.loop-i.invariant (search rules) (search rules) c.if-text-i-eq10.true

pub loop-i-preserved : goal.loop-i-preserved
loop-i-preserved c = skip_line_more _ c.args.p _ c.loop-i.invariant (search rules) c.if-text-i-eq10.false

pub returns : goal.returns
returns c = skip_line_end _ c.args.p c.loop-i.i c.loop-i.invariant (search rules)
