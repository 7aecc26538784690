use mathlib.Core.Path.{sym}
use borrow.Author.Tests.{lt-ltb, le-ltb}
use Rattle.refusal.proofs.Steps.{first_hit, first_skip, first_end}
use Rattle.verdicts.proofs.check_output.Goals as goal

pub returns-then-output-needed : goal.returns-then-output-needed
returns-then-output-needed c = sym (first_hit 7 _ tt (lt-ltb _ _ c.if-output-needed.true))

pub returns : goal.returns
returns c = sym (first_skip 7 _ tt (le-ltb _ _ c.if-output-needed.false) (first_end tt))
