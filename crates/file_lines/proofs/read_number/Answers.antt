use Rattle.file_lines.proofs.PlaceLaws.{number_start, number_more, number_stop, number_end}
use borrow.Author.Rules.{rules}
use mathlib.Core.Path.{sym}
use Rattle.file_lines.proofs.read_number.Goals as goal

pub loop-i-init : goal.loop-i-init
loop-i-init c = number_start _ _ (search rules)

pub returns-then-not-digit : goal.returns-then-not-digit
returns-then-not-digit c = number_stop _ _ _ _ c.loop-i.invariant (search rules) (sym c.if-not-digit.ensures)

pub loop-i-preserved : goal.loop-i-preserved
loop-i-preserved c = number_more _ _ _ _ c.loop-i.invariant _ (search rules)
    (sym c.if-not-digit.ensures) c.digit_more-value.ensures

pub returns : goal.returns
returns c = number_end _ _ _ _ c.loop-i.invariant (search rules)
