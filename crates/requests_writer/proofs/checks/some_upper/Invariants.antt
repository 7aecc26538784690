use mathlib.Core.Path.{◌≡◌}
use mathlib.Core.Bool.{false}
use Rattle.lists.specs.Test.{any}
use Rattle.requests_writer.specs.Writer.{upper_at}
use Rattle.requests_writer.proofs.checks.some_upper.Given as goal

abbrev pub invariant-loop-k : goal.invariant-loop-k
invariant-loop-k l = any (upper_at l.rows l.columns) l.k ≡ false
