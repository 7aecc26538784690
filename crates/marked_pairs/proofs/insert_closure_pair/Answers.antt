use Rattle.marked_pairs.proofs.InsertLaws.{inserted_turned}
use Rattle.marked_pairs.proofs.insert_closure_pair.Goals as goal

pub returns-then-a-b : goal.returns-then-a-b
returns-then-a-b c = inserted_turned c.insert_ordered_pair.ensures
