use mathlib.Core.Path.{◌≡◌}
use mathlib.Core.Bool.{false}
use Rattle.lists.specs.Test.{any}
use Rattle.weight_ranges.specs.Ranges.{repeated_at}
use Rattle.weight_ranges.proofs.checks.some_repeated.Given as goal

abbrev pub invariant-loop-a : goal.invariant-loop-a
invariant-loop-a l = any (repeated_at l.columns) l.a ≡ false
