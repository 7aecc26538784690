use Rattle.fill.proofs.KeptLaws.{unmarked_column}
use Rattle.lists.specs.Test.{any}
use mathlib.Core.Path.{◌≡◌}
use mathlib.Core.Bool.{false}
use Rattle.fill.proofs.kept_pattern.closure_is_cholesky_factor_pattern.Given as goal

abbrev pub invariant-loop-c : goal.invariant-loop-c
invariant-loop-c l = any (unmarked_column l.n l.scratch l.starts l.rows l.values) l.c ≡ false
