use mathlib.Core.Path.{sym, ap}
use borrow.Author.Tests.{le-leb, lt-leb}
use Rattle.diagnostics.specs.Diagnosis.{status_of}
use Rattle.closure.proofs.status_within.Goals as goal

pub returns-then-limit-count : goal.returns-then-limit-count
returns-then-limit-count c = sym (ap status_of (lt-leb c.args.count c.args.limit c.if-limit-count.true))

pub returns : goal.returns
returns c = sym (ap status_of (le-leb c.args.count c.args.limit c.if-limit-count.false))
