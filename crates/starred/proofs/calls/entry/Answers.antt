use borrow.Author.Rules.{rules}
use Rattle.starred_table.specs.Answer.{read_answer_in}
use Rattle.starred_table.specs.Calls.{same_room}
use Rattle.starred.proofs.calls.entry.Goals as goal

-- src/calls.rt:52:1
pub returns : goal.returns
returns c = read_answer_in _ _ _ _ _ _ c.selected_inverse_entry_with_limit.ensures (same_room (search rules) (search rules) (search rules) (search rules))
