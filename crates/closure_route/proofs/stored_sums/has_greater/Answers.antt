use Rattle.closure_route.proofs.StoredLaws.{greater_none, greater_last}
use Rattle.closure_route.proofs.stored_sums.has_greater.Goals as goal

pub returns-then-e-s : goal.returns-then-e-s
returns-then-e-s c = greater_none c.requires c.args.i c.if-e-s.true

pub returns : goal.returns
returns c = greater_last c.requires c.args.i c.if-e-s.false c.at.ensures
