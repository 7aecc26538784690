use native.Mathlib.Omega.{arith}
use Rattle.closure_route.proofs.SumsLaws.{sum_between_none}
use Rattle.closure_route.proofs.sums.entry_sum.Goals as goal

pub returns : goal.returns
returns c = c.sum_from.ensures _ (omega arith) (sum_between_none _ _ _ _ _)
