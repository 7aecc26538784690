use Rattle.file_lines.proofs.PlaceLaws.{skip_more, skip_stop, skip_end}
use Rattle.requests_reader.specs.EntryLines.{space}
use borrow.Author.Rules.{rules}
use mathlib.Core.Path.{sym}
use Rattle.requests_reader.proofs.entries.skip_spaces.Goals as goal

pub returns-then-not-space : goal.returns-then-not-space
returns-then-not-space c = skip_stop space _ _ _ c.loop-i.invariant (search rules) (search rules) (sym c.if-not-space.ensures)

pub loop-i-preserved : goal.loop-i-preserved
loop-i-preserved c = skip_more space _ c.args.p _ c.loop-i.invariant (search rules) (sym c.if-not-space.ensures)

pub returns : goal.returns
returns c = skip_end space _ c.args.p c.loop-i.i c.loop-i.invariant (search rules) (search rules)
