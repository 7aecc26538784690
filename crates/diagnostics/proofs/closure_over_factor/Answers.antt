use Rattle.diagnostics.proofs.Counts.{exact, ratio_none, ratio_some}
use native.Mathlib.Omega.{arith}
use Rattle.diagnostics.proofs.closure_over_factor.Goals as goal

pub int_to_float-result : goal.int_to_float-result
int_to_float-result c = exact _ c.requires.0

pub int_to_float-result-then-factor_pairs-lt1 : goal.int_to_float-result-then-factor_pairs-lt1
int_to_float-result-then-factor_pairs-lt1 c = exact _ (omega arith)

pub returns-then-factor_pairs-lt1 : goal.returns-then-factor_pairs-lt1
returns-then-factor_pairs-lt1 c = ratio_none _ _ c.if-factor_pairs-lt1.true

pub int_to_float-result-2 : goal.int_to_float-result-2
int_to_float-result-2 c = exact _ c.requires.0

pub int_to_float-result-3 : goal.int_to_float-result-3
int_to_float-result-3 c = exact _ c.requires.1

pub returns : goal.returns
returns c = ratio_some _ _ c.if-factor_pairs-lt1.false
