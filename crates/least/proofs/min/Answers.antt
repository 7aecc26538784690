use Rattle.least.proofs.min.Goals as goal

pub returns-then-x-m : goal.returns-then-x-m
returns-then-x-m c = rw c.if-x-m.true

pub returns : goal.returns
returns c = rw c.if-x-m.false
