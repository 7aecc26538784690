use mathlib.Core.Bool.{false}
use mathlib.Core.Path.{◌≡◌}
use Rattle.lists.specs.Test.{any}
use Rattle.factor_check.specs.Unfit.{unfit_column}
use Rattle.factor_check.proofs.unfit.columns_unfit.Given as goal

abbrev pub invariant-loop-c : goal.invariant-loop-c
invariant-loop-c g l = any (unfit_column l.starts l.rows (g.T.StoredValue.kept l.values) (g.T.CheckedValue.unfit l.values)) l.c ≡ false
