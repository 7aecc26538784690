use Rattle.requests_reader.proofs.HeaderLaws.{first_line_start, first_line_more, first_line_whole, first_line_end, first_line_same}
use Rattle.requests_reader.proofs.HeaderLaws.{first_line_short, first_line_ended, first_line_other, first_line_long}
use borrow.Author.Rules.{rules}
use Rattle.requests_reader.proofs.front.first_line_is.Goals as goal
use Rattle.requests_reader.proofs.front.first_line_is.Goals.{then-i-text-via-then-i-text, then-i-text-via-else-i-text+then-text-i-eq10}
use Rattle.requests_reader.proofs.front.first_line_is.Goals.{then-i-text-via-else-i-text+else-text-i-eq10+then-text-i}

pub loop-i-init : goal.loop-i-init
loop-i-init c = first_line_start _ _

pub returns-then-i-text : goal.returns-then-i-text
returns-then-i-text c =
    elim c.then-i-text.branch [
      | then-i-text-via-then-i-text w ↦ first_line_short _ _ _ c.loop-i.invariant (search rules) (search rules)
      | then-i-text-via-else-i-text+then-text-i-eq10 w ↦ first_line_ended _ _ _ c.loop-i.invariant (search rules) (search rules) w.if-text-i-eq10.true
      | then-i-text-via-else-i-text+else-text-i-eq10+then-text-i w ↦ first_line_other _ _ _ c.loop-i.invariant (search rules) (search rules) w.if-text-i.true
    ]

pub loop-i-preserved : goal.loop-i-preserved
loop-i-preserved c = first_line_more _ _ _ c.loop-i.invariant (search rules) (search rules) c.if-text-i-eq10.false c.if-text-i.false

pub returns-then-end-text : goal.returns-then-end-text
returns-then-end-text c = first_line_end _ _ (first_line_whole _ _ _ c.loop-i.invariant (search rules) (search rules)) (search rules)

pub returns-then-text-end-eq10 : goal.returns-then-text-end-eq10
returns-then-text-end-eq10 c =
    first_line_same _ _ (first_line_whole _ _ _ c.loop-i.invariant (search rules) (search rules)) (search rules) c.if-text-end-eq10.true

pub returns : goal.returns
returns c = first_line_long _ _ (first_line_whole _ _ _ c.loop-i.invariant (search rules) (search rules)) (search rules) c.if-text-end-eq10.false
