use mathlib.Core.Path.{ap, sym}
use Rattle.column_search.specs.Reply.{place_reply}
use Rattle.column_search.proofs.pair_place.of_row.Goals as goal

pub returns-in-Some : goal.returns-in-Some
returns-in-Some c = sym (ap place_reply c.in-Some.is)

pub returns-in-None : goal.returns-in-None
returns-in-None c = sym (ap place_reply c.in-None.is)
