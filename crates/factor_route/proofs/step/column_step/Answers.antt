use Rattle.scatter.specs.Scatter.{stepped}
use Rattle.factor_route.proofs.step.column_step.Goals as goal

pub returns : goal.returns
unfolding stepped
returns c = rw (c.entry_on_diagonal.ensures, c.column_below-sum.ensures.value, c.column_below-sum.ensures.part_after)
