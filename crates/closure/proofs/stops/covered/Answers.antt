use Rattle.closure.proofs.stops.covered.Goals as goal

pub returns-then-covered_in_order : goal.returns-then-covered_in_order
returns-then-covered_in_order g c t = c.covered_in_order.ensures c.if-covered_in_order.true

pub returns : goal.returns
returns g c = c.covered_apart.ensures
