use mathlib.Core.Path.{◌≡◌}
use Rattle.lists.specs.Overwrite.{filled}
use Rattle.columns.specs.WholeFactor.{whole_value}
use Rattle.whole_steps.proofs.whole_lists.copy_wholes.Given as goal

abbrev pub invariant-loop-i : goal.invariant-loop-i
invariant-loop-i l = l.to ≡ filled (whole_value l.from) l.i l.initial.to
