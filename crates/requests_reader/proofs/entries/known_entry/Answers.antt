use Rattle.requests_reader.proofs.StoreLaws.{known_entry}
use Rattle.requests_reader.proofs.entries.known_entry.Goals as goal

pub returns : goal.returns
returns c = known_entry _ _ _ _ _ _ _ _ c.requires
    c.skip_spaces.ensures c.read_number-a.ensures c.skip_blanks.ensures c.read_number-b.ensures
