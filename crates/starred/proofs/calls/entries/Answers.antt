use mathlib.Core.Path.{ap, ◌∙◌}
use borrow.Author.Rules.{rules}
use Rattle.starred_table.specs.Calls.{call_reply, same_room}
use Rattle.starred.proofs.calls.entries.Goals as goal

-- src/calls.rt:15:1
pub returns : goal.returns
returns c = c.selected_inverse_entries_with_limit.ensures.replies ∙ ap (call_reply _) (same_room (search rules) (search rules) (search rules) (search rules))
