use Rattle.refusal.proofs.Steps.{first_hit, first_skip, first_end}
use mathlib.Core.Path.{sym, ◌∙◌}
use Rattle.operator_check.proofs.check_inside.Goals as goal

pub returns-then-index_outside : goal.returns-then-index_outside
returns-then-index_outside c = sym (first_hit _ _ _ (sym c.index_outside.ensures ∙ c.if-index_outside.true))

pub returns : goal.returns
returns c = sym (first_skip _ _ _ (sym c.index_outside.ensures ∙ c.if-index_outside.false) (first_end _))
