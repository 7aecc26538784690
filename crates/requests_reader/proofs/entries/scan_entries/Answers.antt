use Rattle.requests_reader.proofs.EntryLaws.{scan_start, scan_none, scan_more}
use borrow.Author.Rules.{rules}
use Rattle.requests_reader.proofs.entries.scan_entries.Goals as goal

pub loop-line-init : goal.loop-line-init
loop-line-init c = scan_start _ (search rules) _ _ (search rules)

pub loop-line-preserved : goal.loop-line-preserved
loop-line-preserved c =
    scan_more _ (search rules) _ _ _ _ _ c.loop-line.invariant _ _ _ (rw c.in_ok-entry.was at c.in-Some.ensures) _ c.outside_too-outside.ensures

pub returns : goal.returns
returns c = scan_none _ (search rules) _ _ _ _ _ c.loop-line.invariant c.in_default.ensures
