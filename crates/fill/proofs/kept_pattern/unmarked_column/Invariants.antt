use Rattle.fill.specs.KeptPattern.{unmarked_at}
use Rattle.lists.specs.Test.{any_in}
use mathlib.Core.Path.{◌≡◌}
use mathlib.Core.Bool.{false}
use Rattle.fill.proofs.kept_pattern.unmarked_column.Given as goal

abbrev pub invariant-loop-p : goal.invariant-loop-p
invariant-loop-p l = any_in (unmarked_at l.n l.scratch l.rows l.values l.c) l.s l.p ≡ false
