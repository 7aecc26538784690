use Rattle.columns.specs.Columns.{bound_steps}
use Rattle.refusal.specs.Steps.{verdict}
use Prim.Native.Nat.{ℕ}
use mathlib.Core.Path.{ap, ◌∙◌}
use lib.ListN.{length}
use Rattle.operator_check.proofs.check_operator_bounds.Goals as goal

pub returns : goal.returns
returns c = c.check_bounds.ensures ∙ ap (λ (n : ℕ). verdict (bound_steps n (length c.args.columns.now))) c.operator_rows.ensures
