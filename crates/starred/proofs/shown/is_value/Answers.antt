use Rattle.starred.proofs.shown.is_value.Goals as goal

pub returns-in-Ok : goal.returns-in-Ok
returns-in-Ok c = rw (c.in-Found.is, c.in-Ok.is)
