use Rattle.requests_reader.proofs.EntryLaws.{entry_plain, entry_none, entry_line}
use borrow.Author.Rules.{rules}
use Rattle.requests_reader.proofs.entries.next_entry.Goals as goal

pub returns-in-Some : goal.returns-in-Some
returns-in-Some c = entry_plain _ _ _ _ _ c.in-Some.ensures

pub returns-then-q-text : goal.returns-then-q-text
returns-then-q-text c = entry_none _ _ _ c.skip_spaces-q.ensures (search rules)

pub returns : goal.returns
returns c = entry_line _ _ _ c.skip_spaces-q.ensures (search rules) _ c.read_pair.ensures
