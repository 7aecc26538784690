use mathlib.Core.Path.{◌≡◌}
use mathlib.Core.Bool.{false}
use Rattle.lists.specs.Test.{any}
use Rattle.weight_ranges.specs.Ranges.{bad_range}
use Rattle.weight_ranges.proofs.checks.some_bad_range.Given as goal

abbrev pub invariant-loop-a : goal.invariant-loop-a
invariant-loop-a l = any (bad_range l.lows l.highs) l.a ≡ false
