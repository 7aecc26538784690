use Rattle.starred.proofs.shown.is_absent.Goals as goal

pub returns-in-Err : goal.returns-in-Err
returns-in-Err c = rw (c.in-Found.is, c.in-Err.is, c.refusal_number.ensures)
