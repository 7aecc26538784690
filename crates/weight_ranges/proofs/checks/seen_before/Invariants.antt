use mathlib.Core.Path.{◌≡◌}
use mathlib.Core.Bool.{false}
use lib.Dec.{eqb}
use Rattle.quadratic_form.specs.RowValue.{term_column}
use Rattle.lists.specs.Test.{any}
use Rattle.weight_ranges.proofs.checks.seen_before.Given as goal

abbrev pub invariant-loop-b : goal.invariant-loop-b
invariant-loop-b l = any (λ j. eqb (term_column l.columns j) (term_column l.columns l.a)) l.b ≡ false
