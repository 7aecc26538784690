use Rattle.fill.proofs.fill_entries.Goals as goal

pub returns : goal.returns
returns c = rw c.clear_scratch.ensures c.fill_lists-diagnosis.ensures.fills
