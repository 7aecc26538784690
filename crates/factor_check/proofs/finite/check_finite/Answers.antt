use mathlib.Core.Path.{sym, ◌∙◌}
use Rattle.refusal.proofs.Steps.{first_hit, first_skip, first_end}
use Rattle.columns.specs.Stored.{finite_steps}
use Rattle.factor_check.proofs.finite.check_finite.Goals as goal

pub returns-then-kept_unfit : goal.returns-then-kept_unfit
unfolding finite_steps
returns-then-kept_unfit c = sym (first_hit 18 _ tt (sym c.kept_unfit.ensures ∙ c.if-kept_unfit.true))

pub returns : goal.returns
unfolding finite_steps
returns c = sym (first_skip 18 _ tt (sym c.kept_unfit.ensures ∙ c.if-kept_unfit.false) (first_end tt))
