use Rattle.permutation.proofs.elements.disagrees.Goals as goal

pub at-requires : goal.at-requires
at-requires c = c.requires c.if-compared.true

pub returns-then-compared : goal.returns-then-compared
returns-then-compared c = rw (c.if-compared.true, c.at.ensures)

pub returns : goal.returns
returns c = rw c.if-compared.false
