use Rattle.lists.specs.Test.{any}
use Rattle.columns.specs.Columns.{falls}
use mathlib.Core.Bool.{false}
use mathlib.Core.Path.{◌≡◌}
use Rattle.factor_check.proofs.starts.start_falls.Given as goal

abbrev pub invariant-loop-c : goal.invariant-loop-c
invariant-loop-c l = any (falls l.starts) l.c ≡ false
