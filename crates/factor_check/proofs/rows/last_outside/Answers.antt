use borrow.Author.Tests.{le-ltb, lt-ltb}
use native.Mathlib.Omega.{arith}
use Rattle.factor_check.proofs.rows.last_outside.Goals as goal

pub returns-then-e-eq0 : goal.returns-then-e-eq0
returns-then-e-eq0 c = rw (le-ltb 0 c.args.e (omega arith))

pub returns : goal.returns
returns c = rw (lt-ltb 0 c.args.e (omega arith), c.at.ensures)
