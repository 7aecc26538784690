use Rattle.file_lines.proofs.PlaceLaws.{skip_more, skip_stop, skip_end}
use Rattle.matrix_market.specs.Text.{is_blank}
use borrow.Author.Rules.{rules}
use mathlib.Core.Path.{sym}
use Rattle.file_lines.proofs.skip_blanks.Goals as goal

pub returns-then-not-blank : goal.returns-then-not-blank
returns-then-not-blank c = skip_stop is_blank _ _ _ c.loop-i.invariant (search rules) (search rules) (sym c.if-not-blank.ensures)

pub loop-i-preserved : goal.loop-i-preserved
loop-i-preserved c = skip_more is_blank _ c.args.p _ c.loop-i.invariant (search rules) (sym c.if-not-blank.ensures)

pub returns : goal.returns
returns c = skip_end is_blank _ c.args.p c.loop-i.i c.loop-i.invariant (search rules) (search rules)
