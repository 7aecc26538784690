use Rattle.whole_route.proofs.next_entry.Goals as goal

pub summed_entry-requires : goal.summed_entry-requires
summed_entry-requires c = record { entry_input = c.requires.entry_input; pos_value = c.requires.pos_value c.if-summed.true c.if-j-i.true }

pub returns-then-j-i : goal.returns-then-j-i
returns-then-j-i c = c.summed_entry.ensures

pub whole_entry-requires : goal.whole_entry-requires
whole_entry-requires c = c.requires.entry_input

pub returns : goal.returns
returns c = c.whole_entry.ensures
